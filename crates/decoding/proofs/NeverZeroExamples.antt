-- The premise of demand 3, shown for four rows of readings, and false where the only reading is 0. At a frozen index it requires nothing of the value.
use Rattle.std.specs.Prelude.{◌≡◌, refl, false, List, [], ◌∷◌, ◌++◌, ℕ, zero, ◌+◌, ℤ, pos, negsuc, nat_abs}
use Rattle.std.proofs.Common.{ap, arith}
use Rattle.numbers.specs.Sums.{tabulate}
use Rattle.words.specs.Bits.{digit, ones}
use Rattle.words.specs.Word.{transform}
use Rattle.words.specs.Kinds.{kind, kinds}
use Rattle.decoding.specs.Readings.{loss}
use Rattle.decoding.specs.Walk.{value, State, walk, start, dropped, visited, NeverZero}

-- at a frozen index: what is required further on is enough
pub frozen_free : (m : ℕ) (l : List ℤ) (ks u : List ℕ) (p : ℕ) (s : State) → let q = p + loss (value m l u) 0 in
    (dropped s.held q ≡ false → NeverZero m l ks (u ++ 0 ∷ []) q (visited s)) → NeverZero m l (zero ∷ ks) u p s
unfolding NeverZero
frozen_free m l ks u p s h = h

-- RM(0,0), reading 3
pub never_zero_00 : NeverZero 0 (pos 3 ∷ []) (kinds 0 0) [] 0 start
unfolding kinds kind ones digit tabulate NeverZero value walk
never_zero_00 = (λ e. omega (arith, ap nat_abs e), (λ e. tt), (λ e. tt))

-- if the only reading is 0 it is false
pub zero_met_00 : NeverZero 0 (pos 0 ∷ []) (kinds 0 0) [] 0 start → ⊥
unfolding kinds kind ones digit tabulate NeverZero value walk
zero_met_00 n = n.0 refl

-- RM(1,1), readings 3, 1
pub never_zero_11 : NeverZero 1 (pos 3 ∷ pos 1 ∷ []) (kinds 1 1) [] 0 start
unfolding kinds kind ones digit tabulate NeverZero value walk transform
never_zero_11 = (
  λ e. omega (arith, ap nat_abs e),
  (λ e. (λ f. omega (arith, ap nat_abs f), (λ f. tt), (λ f. tt))),
  (λ e. (λ f. omega (arith, ap nat_abs f), (λ f. tt), (λ f. tt))),
)

-- RM(1,2), readings 5, -2, 3, 1
pub never_zero_12 : NeverZero 2 (pos 5 ∷ negsuc 1 ∷ pos 3 ∷ pos 1 ∷ []) (kinds 1 2) [] 0 start
unfolding kinds kind ones digit tabulate NeverZero value walk transform
never_zero_12 =
    frozen_free 2 (pos 5 ∷ negsuc 1 ∷ pos 3 ∷ pos 1 ∷ []) (1 ∷ 1 ∷ 1 ∷ []) [] 0 start
    (λ z. (
      λ e. omega (arith, ap nat_abs e),
      (λ e. (
        λ f. omega (arith, ap nat_abs f),
        (λ f. (λ g. omega (arith, ap nat_abs g), (λ g. tt), (λ g. tt))),
        (λ f. (λ g. omega (arith, ap nat_abs g), (λ g. tt), (λ g. tt))),
      )),
      (λ e. (
        λ f. omega (arith, ap nat_abs f),
        (λ f. (λ g. omega (arith, ap nat_abs g), (λ g. tt), (λ g. tt))),
        (λ f. (λ g. omega (arith, ap nat_abs g), (λ g. tt), (λ g. tt))),
      )),
    ))

-- RM(1,2), readings 0, 1, 10, 3: the value at the frozen index is 0, and it still holds
pub frozen_value_zero : value 2 (pos 0 ∷ pos 1 ∷ pos 10 ∷ pos 3 ∷ []) [] ≡ pos 0
unfolding value
frozen_value_zero = refl

pub never_zero_frozen : NeverZero 2 (pos 0 ∷ pos 1 ∷ pos 10 ∷ pos 3 ∷ []) (kinds 1 2) [] 0 start
unfolding kinds kind ones digit tabulate NeverZero value walk transform
never_zero_frozen =
    frozen_free 2 (pos 0 ∷ pos 1 ∷ pos 10 ∷ pos 3 ∷ []) (1 ∷ 1 ∷ 1 ∷ []) [] 0 start
    (λ z. (
      λ e. omega (arith, ap nat_abs e),
      (λ e. (
        λ f. omega (arith, ap nat_abs f),
        (λ f. (λ g. omega (arith, ap nat_abs g), (λ g. tt), (λ g. tt))),
        (λ f. (λ g. omega (arith, ap nat_abs g), (λ g. tt), (λ g. tt))),
      )),
      (λ e. (
        λ f. omega (arith, ap nat_abs f),
        (λ f. (λ g. omega (arith, ap nat_abs g), (λ g. tt), (λ g. tt))),
        (λ f. (λ g. omega (arith, ap nat_abs g), (λ g. tt), (λ g. tt))),
      )),
    ))
