-- Laws of the two parts: each operation on signed numbers is one linear fact about counts, which `omega` reads.
use Rattle.std.specs.Prelude.{◌≡◌, refl, true, false, ◌⊎◌, ℕ, zero, suc, ◌+◌, ◌^◌, ◌≤◌, ◌<◌, min, ℤ, pos, negsuc, nat_abs, ◌+ℤ◌, neg_ℤ, ltb}
use Rattle.std.proofs.Common.{ap, true≢false, inl, inr, ⊎_elim, arith, ltb-true, ltb-false}
use Rattle.std.proofs.lemmas.Bool.{false≢true}
use Rattle.std.proofs.Math.IntN.{sub_ℕ}
use Rattle.std.specs.Int.Signed.{lt_z}
use Rattle.std.specs.Int.{Width}
use mir.Val.{SFits, hbits}
use Rattle.numbers.specs.Parts.{up, down}
use Rattle.numbers.specs.Choice.{cond_by}

-- what is known about one number
pub record Parts (z : ℤ) : Type 0 where
  pub apart : min (up z) (down z) ≡ 0
  pub size : nat_abs z ≡ up z + down z

pub parts : (z : ℤ) → Parts z
parts (pos n) = record { apart = omega arith; size = omega arith }
parts (negsuc n) = record { apart = omega arith; size = omega arith }

difference : (a b : ℕ) → up (sub_ℕ a b) + b ≡ down (sub_ℕ a b) + a
difference a b =
    cond_by (λ (z : ℤ). up z + b ≡ down z + a) (ltb a b) _ _ (λ t. omega (arith, ltb-true a b t)) (λ t. omega (arith, ltb-false a b t))

pub sum_parts : (a b : ℤ) → up (a +ℤ b) + (down a + down b) ≡ down (a +ℤ b) + (up a + up b)
sum_parts (pos a) (pos b) = omega arith
sum_parts (pos a) (negsuc b) = omega (arith, difference a (suc b))
sum_parts (negsuc a) (pos b) = omega (arith, difference b (suc a))
sum_parts (negsuc a) (negsuc b) = omega arith

pub record Negated (z : ℤ) : Type 0 where
  pub up-negated : up (neg_ℤ z) ≡ down z
  pub down-negated : down (neg_ℤ z) ≡ up z

pub negated : (z : ℤ) → Negated z
negated (pos zero) = record { up-negated = refl; down-negated = refl }
negated (pos (suc n)) = record { up-negated = refl; down-negated = refl }
negated (negsuc n) = record { up-negated = refl; down-negated = refl }

-- two numbers are equal if their parts are
pub by_parts : (a b : ℤ) → up a + down b ≡ up b + down a → a ≡ b
by_parts (pos a) (pos b) h = ap pos (omega arith)
by_parts (pos a) (negsuc b) h = absurd (omega arith)
by_parts (negsuc a) (pos b) h = absurd (omega arith)
by_parts (negsuc a) (negsuc b) h = ap negsuc (omega arith)

-- one of the parts is 0
pub sign : (z : ℤ) → (down z ≡ 0) ⊎ (up z ≡ 0)
sign (pos n) = inl refl
sign (negsuc n) = inr refl

-- a fact about two numbers, by their signs
pub by_signs : {P : Type 0} (x y : ℤ) → (down x ≡ 0 → down y ≡ 0 → P) → (down x ≡ 0 → up y ≡ 0 → P)
    → (up x ≡ 0 → down y ≡ 0 → P) → (up x ≡ 0 → up y ≡ 0 → P) → P
by_signs x y a b c d = ⊎_elim (λ h. ⊎_elim (a h) (b h) (sign y)) (λ h. ⊎_elim (c h) (d h) (sign y)) (sign x)

-- a signed test, as a fact about the parts
pub less_parts : (a b : ℤ) → lt_z a b ≡ true → up a + down b < up b + down a
less_parts (pos a) (pos b) e = omega (arith, ltb-true a b e)
less_parts (pos a) (negsuc b) e = absurd (false≢true e)
less_parts (negsuc a) (pos b) e = omega arith
less_parts (negsuc a) (negsuc b) e = omega (arith, ltb-true b a e)

pub not_less_parts : (a b : ℤ) → lt_z a b ≡ false → up b + down a ≤ up a + down b
not_less_parts (pos a) (pos b) e = omega (arith, ltb-false a b e)
not_less_parts (pos a) (negsuc b) e = omega arith
not_less_parts (negsuc a) (pos b) e = absurd (true≢false e)
not_less_parts (negsuc a) (negsuc b) e = omega (arith, ltb-false b a e)

-- a number of this size fits the signed type of that width
pub fits_size : {w : Width} (z : ℤ) → nat_abs z < 2 ^ hbits w → SFits w z
fits_size (pos n) h = record { sfits = h }
fits_size (negsuc n) h = record { sfits = omega arith }
