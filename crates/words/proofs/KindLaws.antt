-- Laws of the kinds of RM(r,m): the row of kinds by halves, its length and entries, and its count of information indices, which is k.
use Rattle.std.specs.Prelude.{◌≡◌, refl, List, [], ◌∷◌, ◌++◌, ℕ, zero, suc, ◌+◌, ◌-◌, ◌^◌, ◌≤◌, ◌<◌, length, get_or, replicate}
use Rattle.std.proofs.Common.{ap, sym, ◌∙◌, ⊎_elim, arith, le-leb}
use Rattle.std.proofs.Math.Nat.{two-pow-succ}
use Rattle.std.proofs.Math.ListN.{get_or-eq_default}
use Rattle.std.proofs.lemmas.Bool.{lt-leb}
use Rattle.numbers.specs.Choice.{lt_or_le}
use Rattle.numbers.specs.Sums.{total, tabulate, sum}
use Rattle.numbers.specs.SumsLaws.{total-add, total-zero, tabulate_split, tabulate_same, length-tabulate, get_d_tabulate, tabulate-zeros, sum-append, sum_zeros}
use Rattle.words.specs.Bits.{Bits, ones}
use Rattle.words.specs.Kinds.{kind, kinds, choose, dimension}
use Rattle.words.specs.BitLaws.{ones_most, ones-first, ones-second}

-- ---- one index
module _ (r m i : ℕ) where
  pub kind_information : m ≤ ones m i + r → kind r m i ≡ 1
  unfolding kind
  kind_information h = rw (le-leb (m - r) (ones m i) (omega arith))

  pub kind_frozen : ones m i + r < m → kind r m i ≡ 0
  unfolding kind
  kind_frozen h = rw (lt-leb (m - r) (ones m i) (omega arith))

  pub kind_bit : kind r m i < 2
  kind_bit = ⊎_elim (λ h. omega (arith, kind_frozen h)) (λ h. omega (arith, kind_information h)) (lt_or_le (ones m i + r) m)

-- an index of the first half: its bit m is 0, so r falls by one with m, and for r = 0 none is left
pub kind-first-zero : (m i : ℕ) → i < 2 ^ m → kind 0 (suc m) i ≡ 0
kind-first-zero m i h = kind_frozen 0 (suc m) i (omega (arith, ones-first m i h, ones_most m i))

pub kind-first-suc : (r m i : ℕ) → i < 2 ^ m → kind (suc r) (suc m) i ≡ kind r m i
kind-first-suc r m i h =
    ⊎_elim
    (λ k. kind_frozen (suc r) (suc m) i (omega (arith, ones-first m i h)) ∙ sym (kind_frozen r m i k))
    (λ k. kind_information (suc r) (suc m) i (omega (arith, ones-first m i h)) ∙ sym (kind_information r m i k))
    (lt_or_le (ones m i + r) m)

-- an index of the second half
pub kind-second : (r m i : ℕ) → i < 2 ^ m → kind r (suc m) (2 ^ m + i) ≡ kind r m i
kind-second r m i h =
    ⊎_elim
    (λ k. kind_frozen r (suc m) (2 ^ m + i) (omega (arith, ones-second m i h)) ∙ sym (kind_frozen r m i k))
    (λ k. kind_information r (suc m) (2 ^ m + i) (omega (arith, ones-second m i h)) ∙ sym (kind_information r m i k))
    (lt_or_le (ones m i + r) m)

-- ---- the row
pub length-kinds : (r m : ℕ) → length (kinds r m) ≡ 2 ^ m
unfolding kinds
length-kinds r m = length-tabulate (kind r m) (2 ^ m)

pub kinds_at : (r m i : ℕ) → i < 2 ^ m → get_or (kinds r m) i 0 ≡ kind r m i
unfolding kinds
kinds_at r m i h = get_d_tabulate (kind r m) (2 ^ m) i 0 h

pub bits_kinds : (r m : ℕ) → Bits (kinds r m)
bits_kinds r m i =
    ⊎_elim
    (λ h. rw (kinds_at r m i h) (kind_bit r m i))
    (λ h. rw (get_or-eq_default (kinds r m) 0 {n = i} (rw (length-kinds r m) h)) (omega arith))
    (lt_or_le i (2 ^ m))

kinds_halves : (r m : ℕ) → kinds r (suc m) ≡ tabulate (kind r (suc m)) (2 ^ m) ++ kinds r m
unfolding kinds
kinds_halves r m =
    ap (tabulate (kind r (suc m))) (two-pow-succ m) ∙ tabulate_split (kind r (suc m)) (2 ^ m) (2 ^ m)
    ∙ ap (λ (l : List ℕ). tabulate (kind r (suc m)) (2 ^ m) ++ l)
    (tabulate_same (λ i. kind r (suc m) (2 ^ m + i)) (kind r m) (2 ^ m) (kind-second r m))

-- the row of kinds by halves
pub kinds-one : (r : ℕ) → kinds r 0 ≡ 1 ∷ []
unfolding kinds tabulate
kinds-one r = ap (λ (k : ℕ). k ∷ []) (kind_information r 0 0 (omega arith))

pub kinds-zero : (m : ℕ) → kinds 0 (suc m) ≡ replicate (2 ^ m) 0 ++ kinds 0 m
kinds-zero m =
    kinds_halves 0 m
    ∙ ap (λ (l : List ℕ). l ++ kinds 0 m) (tabulate_same (kind 0 (suc m)) (λ i. 0) (2 ^ m) (kind-first-zero m) ∙ tabulate-zeros (2 ^ m))

pub kinds-suc : (r m : ℕ) → kinds (suc r) (suc m) ≡ kinds r m ++ kinds (suc r) m
unfolding kinds
kinds-suc r m =
    kinds_halves (suc r) m
    ∙ ap (λ (l : List ℕ). l ++ kinds (suc r) m) (tabulate_same (kind (suc r) (suc m)) (kind r m) (2 ^ m) (kind-first-suc r m))

-- ---- the count of information indices
pub dimension-zero : (m : ℕ) → dimension 0 m ≡ 1
unfolding dimension total choose
dimension-zero zero = refl
dimension-zero (suc m) = refl

pub dimension-one : (r : ℕ) → dimension r 0 ≡ 1
unfolding dimension total choose
dimension-one r = omega (arith, total-zero r)

-- Pascal's rule, summed
pub dimension-suc : (r m : ℕ) → dimension (suc r) (suc m) ≡ dimension r m + dimension (suc r) m
unfolding dimension total choose
dimension-suc r m = omega (arith, total-add (λ i. choose m (suc i)) (λ i. choose m (suc (suc i))) r)

-- k in both forms of the rules: the count of information indices is the sum of binomials
pub sum-kinds : (r m : ℕ) → sum (kinds r m) ≡ dimension r m
unfolding sum
sum-kinds r zero = ap sum (kinds-one r) ∙ sym (dimension-one r)
sum-kinds zero (suc m) =
    ap sum (kinds-zero m) ∙ sum-append (replicate (2 ^ m) 0) (kinds 0 m)
    ∙ omega (arith, sum_zeros (2 ^ m), sum-kinds 0 m, dimension-zero m, dimension-zero (suc m))
sum-kinds (suc r) (suc m) =
    ap sum (kinds-suc r m) ∙ sum-append (kinds r m) (kinds (suc r) m) ∙ omega (arith, sum-kinds r m, sum-kinds (suc r) m, dimension-suc r m)

pub sum_kinds_pos : (r m : ℕ) → 0 < sum (kinds r m)
unfolding dimension total choose
sum_kinds_pos r m = omega (arith, sum-kinds r m)

-- k is at most n
pub sum_most : (l : List ℕ) → Bits l → sum l ≤ length l
unfolding sum
sum_most [] h = omega arith
sum_most (x ∷ l) h = omega (arith, h 0, sum_most l (λ i. h (suc i)))

pub dimension_most : (r m : ℕ) → dimension r m ≤ 2 ^ m
dimension_most r m = omega (arith, sum-kinds r m, sum_most (kinds r m) (bits_kinds r m), length-kinds r m)
