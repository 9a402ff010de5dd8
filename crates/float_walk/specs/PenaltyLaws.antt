-- Laws of penalties that are floats: sums, order, and the counts that they are.
use Rattle.std.specs.Prelude.{◌≡◌, refl, false, ℕ, ◌+◌, ◌-◌, ◌^◌, ◌≤◌, ◌<◌, pos, nat_abs, T, ltb, leb, Float}
use Rattle.std.proofs.Common.{ap, ap₂, sym, ◌∙◌, subst, arith, le→leb}
use Rattle.std.specs.Float.Ieee as Ieee
use Rattle.std.specs.Float.{binary32}
use Rattle.std.specs.Float.Ieee.Back.{unsigned_back}
use Rattle.decoding.specs.Readings.{sum_limit}
use Rattle.float_numbers.specs.Whole.{Represents, whole_of, float}
use Rattle.float_numbers.proofs.WholeLaws.{represents_small, whole_zero, whole_float, float_add, float_sub, lt_float, le_float}
use Rattle.float_walk.specs.declared.Penalties.{Penalties}
use Rattle.float_walk.specs.declared.Extension.TheVariants.{Kept}
use Rattle.float_walk.specs.Held.{count, second_of, Penalty, Extends}

count-float : (n : ℕ) → n ≤ 2 ^ 24 → count (float n) ≡ n
count-float n h = ap nat_abs (whole_float n h)

-- a float that is a small count is a penalty
pub penalty_of_lem : {x : Float} (n : ℕ) → x ≡ float n → n < sum_limit → Penalty x
penalty_of_lem n e h = rw e (record { is = ap float (sym (count-float n (omega arith))); small = rw (count-float n (omega arith)) h })

pub count_of : {x : Float} (n : ℕ) → x ≡ float n → n < sum_limit → count x ≡ n
count_of n e h = rw e (count-float n (omega arith))

-- what a loss adds
pub penalty-add : {x : Float} (y : Float) (b : ℕ) → Penalty x → whole_of y ≡ pos b → count x + b < sum_limit → Ieee.add binary32 x y ≡ float (count x + b)
penalty-add {x} y b p e h =
    let is : Represents y (pos b) = subst (Represents y) e (represents_small y (rw e (omega arith))) in
    ap (λ (z : Float). Ieee.add binary32 z y) p.is ∙ float_add (count x) b (omega (arith, p.small)) is

-- order
pub penalty_lt : {x y : Float} → Penalty x → Penalty y → Ieee.lt x y ≡ ltb (count x) (count y)
penalty_lt {x} {y} p q = ap₂ Ieee.lt p.is q.is ∙ lt_float (count x) (count y) (omega (arith, p.small)) (omega (arith, q.small))

pub penalty_le : {x y : Float} → Penalty x → Penalty y → Ieee.le x y ≡ leb (count x) (count y)
penalty_le {x} {y} p q = ap₂ Ieee.le p.is q.is ∙ le_float (count x) (count y) (omega (arith, p.small)) (omega (arith, q.small))

-- ---- an extension that is kept
pub record KeptAs (h : Penalties) (q : ℕ) (x : Float) : Type 0 where
  pub kept : leb (second_of h) (count x) ≡ false
  pub adds : count x ≡ q
  pub penalty : Penalty x

pub kept_as : {h : Penalties} {q : ℕ} {x : Float} → Extends h q (Kept x) → q < sum_limit → KeptAs h q x
kept_as {h} {q} {x} e small =
    let n : count x ≡ q = count_of q e.1 small in
    record { kept = rw n e.0; adds = n; penalty = penalty_of_lem q e.1 small }

-- ---- no penalty at all
zero_is : Ieee.of_bits binary32 0 ≡ float 0
unfolding Ieee.of_bits Ieee.of_int
zero_is = refl

pub no_count : count (Ieee.of_bits binary32 0) ≡ 0
no_count = ap nat_abs whole_zero

pub no_penalty : Penalty (Ieee.of_bits binary32 0)
no_penalty = record { is = zero_is ∙ ap float (sym no_count); small = rw no_count (omega arith) }

-- ---- the difference of two penalties, and a penalty as a whole number
pub penalty-sub : {x y : Float} → Penalty x → Penalty y → count y ≤ count x → Ieee.sub binary32 x y ≡ float (count x - count y)
penalty-sub {x} {y} p q h = ap₂ (Ieee.sub binary32) p.is q.is ∙ float_sub (count x) (count y) (omega (arith, p.small)) h

in_float : (n : ℕ) → n < sum_limit → T (Ieee.in_float binary32 (pos n))
unfolding Ieee.in_float
in_float n h = le→leb n (2 ^ 24) (omega arith)

-- the cast requires nothing more, and gives the count
pub penalty_cast : {x : Float} → Penalty x → T (Ieee.in_unsigned binary32 32 x) × (Ieee.to_unsigned 32 x ≡ count x)
penalty_cast {x} p =
    let n = count x in
    subst (λ (y : Float). T (Ieee.in_unsigned binary32 32 y) × (Ieee.to_unsigned 32 y ≡ n)) (sym p.is)
    (unsigned_back binary32 32 n (in_float n p.small) (omega (arith, p.small)))
