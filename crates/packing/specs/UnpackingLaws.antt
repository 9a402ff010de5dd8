-- Laws of unpacking: when each answer is given, and that no second answer meets the promise.
use Rattle.std.specs.Prelude.{◌≡◌, refl, List, ℕ, zero, suc, ◌<◌, ℤ, length, Result, Ok, Err}
use Rattle.std.proofs.Common.{ap, sym, ◌∙◌, arith, pow_pos}
use Rattle.std.proofs.Math.Decide.{ℕ_discrete}
use borrow.Author.Tests.{eq-eqb, ne_eqb}
use Rattle.code.specs.Sound.{largest_m}
use Rattle.code.specs.RefusalLaws.{completed_only}
use Rattle.code.specs.declared.Refusal.TheVariants.{InputLength, OutputLength}
use Rattle.packing.specs.Layout.{unpacked, part_length, readings_in}
use Rattle.packing.specs.Unpacking.{UnpackedOutcome, outcome_of, unpacking}
use Rattle.code.specs.declared.Refusal.{Refusal}

-- the three answers, by the tests
module _ (p : List ℕ) (d : List ℤ) where
  abbrev n : ℕ
  n = readings_in (suc largest_m) (length p)

  pub no_part : n ≡ 0 → unpacking p d ≡ outcome_of (Err InputLength) d
  unfolding unpacking
  no_part e = rw (eq-eqb n 0 e)

  module _ (some : n ≡ 0 → ⊥) where
    pub other_room : (length d ≡ n → ⊥) → unpacking p d ≡ outcome_of (Err OutputLength) d
    unfolding unpacking
    other_room f = rw (ne_eqb n 0 some, ne_eqb (length d) n f)

    pub all-unpacked : length d ≡ n → unpacking p d ≡ outcome_of (Ok tt) (unpacked p)
    unfolding unpacking
    all-unpacked e = rw (ne_eqb n 0 some, eq-eqb (length d) n e)

-- no second answer and no second buffer meet the promise
pub unpack_only : (o : UnpackedOutcome) (a b : Result (Unit {0}) Refusal) (x y : List ℤ) → outcome_of a x ≡ o → outcome_of b y ≡ o → (a ≡ b) × (x ≡ y)
unpack_only o a b x y e f =
    let same : outcome_of a x ≡ outcome_of b y = e ∙ sym f in
    (completed_only a b (ap (λ (p : UnpackedOutcome). p.carry) same), ap (λ (p : UnpackedOutcome). p.readings) same)

-- 2 is given exactly if no record has a part of that length
pub part_of-none : (b k : ℕ) → ((m : ℕ) → m < b → k ≡ part_length m → ⊥) → readings_in b k ≡ 0
unfolding readings_in
part_of-none zero k h = refl
part_of-none (suc m) k h = rw (ne_eqb k (part_length m) (h m (omega arith))) (part_of-none m k (λ j g. h j (omega arith)))

pub part_of_some : (b m : ℕ) → m < b → readings_in b (part_length m) ≡ 0 → ⊥
unfolding readings_in
part_of_some zero m h z = omega arith
part_of_some (suc b) m h z =
    elim (ℕ_discrete (part_length m) (part_length b)) [
      | yes e ↦ omega (arith, pow_pos b, rw (eq-eqb (part_length m) (part_length b) e) at z)
      | no f ↦
          let g : m ≡ b → ⊥ = λ s. f (ap part_length s) in
          part_of_some b m (omega (arith, g)) (rw (ne_eqb (part_length m) (part_length b) f) at z)
    ]
