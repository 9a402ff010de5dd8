-- The all-ones word has only the marker: in every set of words that has it, its information bits are zeros and a last 1.
use Rattle.std.specs.Prelude.{◌≡◌, refl, List, [], ◌∷◌, ◌++◌, ℕ, zero, suc, ◌+◌, ◌-◌, ◌^◌, ◌<◌, length, get_or, take, replicate}
use Rattle.std.proofs.Common.{ap, ap₂, sym, ◌∙◌, arith, suc-ne-zero, length-append, ext_get_or, take-suc, take_all, take_at, length-take-le, get_or-take}
use Rattle.std.proofs.Common.{pow_pos}
use Rattle.std.proofs.Math.Nat.{suc_inj}
use Rattle.std.proofs.Math.Decide.{ℕ_discrete}
use Rattle.std.proofs.lemmas.List.{length-replicate, get_or-replicate, get_or_at}
use Rattle.numbers.specs.Sums.{sum}
use Rattle.words.specs.Bits.{Bits}
use Rattle.words.specs.Word.{transform}
use Rattle.words.specs.Kinds.{pick, Word, all_ones}
use Rattle.words.specs.TransformLaws.{length-transform, bits_transform, bits_take}
use Rattle.words.proofs.FillLaws.{pick-fill}
use Rattle.words.proofs.HalfLaws.{below-ones}
use Rattle.words.proofs.AllOnesLaws.{zero_but_last, not-zero-last}
use Rattle.words.proofs.InverseLaws.{word_row, word_frozen}
use Rattle.guarded.specs.Guard.{with_marker, last_bit, message_of}

-- ---- a list by its last entry
pub last_split : (b : List ℕ) → 0 < length b → message_of b ++ last_bit b ∷ [] ≡ b
last_split b h =
    let k = length b - 1 in
    sym (take-suc b k 0 (omega arith)) ∙ take_all (suc k) b (omega arith)

pub length_with : (marker : ℕ) (message : List ℕ) → length (with_marker marker message) ≡ suc (length message)
length_with marker message = length-append message (marker ∷ []) ∙ omega arith

pub marker_with : (marker : ℕ) (message : List ℕ) → last_bit (with_marker marker message) ≡ marker
marker_with marker message =
    get_or_at message marker [] 0 (length (with_marker marker message) - 1) (omega (arith, length_with marker message))

pub message_with : (marker : ℕ) (message : List ℕ) → message_of (with_marker marker message) ≡ message
message_with marker message =
    take_at message (marker ∷ []) (length (with_marker marker message) - 1) (omega (arith, length_with marker message))

-- ---- the row of the all-ones word
-- a row of bits that is zero but for its last entry, which is not
last-alone : (u : List ℕ) (n : ℕ) → length u ≡ n → 0 < n → Bits u → ((i : ℕ) → (i ≡ n - 1 → ⊥) → get_or u i 0 ≡ 0) → (get_or u (n - 1) 0 ≡ 0 → ⊥)
    → u ≡ replicate (n - 1) 0 ++ 1 ∷ []
last-alone u n e h are_bits zeros one =
    let z : List ℕ = replicate (n - 1) 0 in
    let long : length z ≡ n - 1 = length-replicate (n - 1) 0 in
    let same : take (n - 1) u ≡ z =
    ext_get_or 0 (take (n - 1) u) z (length-take-le (n - 1) u (omega arith) ∙ sym long)
    (λ i k.
    let below : i < n - 1 = omega (arith, k, length-take-le (n - 1) u (omega arith)) in
    get_or-take (n - 1) u i 0 below ∙ zeros i (λ j. omega arith) ∙ sym (get_or-replicate (n - 1) i 0 0 below)) in
    let marker : get_or u (n - 1) 0 ≡ 1 = omega (arith, one, are_bits (n - 1)) in
    sym (take_all (suc (n - 1)) u (omega arith)) ∙ take-suc u (n - 1) 0 (omega arith) ∙ ap₂ (λ (a : List ℕ) (b : ℕ). a ++ b ∷ []) same marker

pub ones-row : (m : ℕ) → transform m (all_ones m) ≡ replicate (2 ^ m - 1) 0 ++ 1 ∷ []
ones-row m =
    let b = below-ones m in
    last-alone (transform m (all_ones m)) (2 ^ m) (length-transform m (all_ones m) b.long) (pow_pos m) (bits_transform m (all_ones m) b.are_bits)
    (zero_but_last m) (not-zero-last m)

-- ---- picked at the information indices
pick-last : (ks : List ℕ) (k n : ℕ) → Bits ks → length ks ≡ n → (k ≡ 0 → ⊥) → pick (ks ++ k ∷ []) (replicate n 0 ++ 1 ∷ []) ≡ replicate (sum ks) 0 ++ 1 ∷ []
unfolding sum
pick-last [] zero zero h e f = absurd (f refl)
pick-last [] (suc k) zero h e f = refl
pick-last [] k (suc n) h e f = absurd (suc-ne-zero n (sym e))
pick-last (a ∷ ks) k zero h e f = absurd (suc-ne-zero (length ks) e)
pick-last (zero ∷ ks) k (suc n) h e f =
    let more : sum ks ≡ 0 + sum ks = omega arith in
    pick-last ks k n (λ i. h (suc i)) (suc_inj e) f ∙ ap (λ (j : ℕ). replicate j 0 ++ 1 ∷ []) more
pick-last (suc zero ∷ ks) k (suc n) h e f =
    let more : suc (sum ks) ≡ 1 + sum ks = omega arith in
    ap (λ (l : List ℕ). 0 ∷ l) (pick-last ks k n (λ i. h (suc i)) (suc_inj e) f) ∙ ap (λ (j : ℕ). replicate j 0 ++ 1 ∷ []) more
pick-last (suc (suc a) ∷ ks) k (suc n) h e f = absurd (omega (arith, h 0))

sum-last : (ks : List ℕ) (k : ℕ) → sum (ks ++ k ∷ []) ≡ sum ks + k
unfolding sum
sum-last [] k = omega arith
sum-last (a ∷ ks) k = omega (arith, sum-last ks k)

module _ (m : ℕ) (ks : List ℕ) (e : length ks ≡ 2 ^ m) (h : Bits ks) (w : Word m ks (all_ones m)) where
  abbrev pub before : List ℕ
  before = take (2 ^ m - 1) ks

  -- the last index carries information
  pub last_information : get_or ks (2 ^ m - 1) 0 ≡ 1
  last_information =
      elim (ℕ_discrete (get_or ks (2 ^ m - 1) 0) 0) [
        | yes z ↦ absurd (not-zero-last m (word_frozen m ks (all_ones m) e w (2 ^ m - 1) z))
        | no z ↦ omega (arith, z, h (2 ^ m - 1))
      ]

  pub kinds_split : before ++ 1 ∷ [] ≡ ks
  kinds_split =
      ap (λ (k : ℕ). before ++ k ∷ []) (sym last_information)
      ∙ sym (take-suc ks (2 ^ m - 1) 0 (omega (arith, e, pow_pos m))) ∙ take_all (suc (2 ^ m - 1)) ks (omega (arith, e))

  pub some-information : 0 < sum ks
  some-information = omega (arith, sum-last before 1, ap sum kinds_split)

  pub ones_bits : w.bits ≡ replicate (sum ks - 1) 0 ++ 1 ∷ []
  ones_bits =
      let n = 2 ^ m - 1 in
      let short : length before ≡ n = length-take-le n ks (omega (arith, e)) in
      let many : sum before ≡ sum ks - 1 = omega (arith, sum-last before 1, ap sum kinds_split) in
      sym (pick-fill ks w.bits h w.long)
      ∙ ap (pick ks) (sym (word_row m ks (all_ones m) e w) ∙ ones-row m)
      ∙ ap (λ (k : List ℕ). pick k (replicate n 0 ++ 1 ∷ [])) (sym kinds_split)
      ∙ pick-last before 1 n (bits_take n ks h) short (λ z. omega arith)
      ∙ ap (λ (k : ℕ). replicate k 0 ++ 1 ∷ []) many

  pub ones_marker : get_or w.bits (sum ks - 1) 0 ≡ 1
  ones_marker =
      let k = sum ks - 1 in
      ap (λ (b : List ℕ). get_or b k 0) ones_bits ∙ get_or_at (replicate k 0) 1 [] 0 k (length-replicate k 0)
