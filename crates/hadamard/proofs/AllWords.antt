-- All words of RM(1,m), place by place: their correlations with a row are, in some order, the entries of the row's transform and their negatives.
use Rattle.std.specs.Prelude.{◌≡◌, refl, List, [], ◌∷◌, ◌++◌, map, ℕ, zero, suc, ◌+◌, ◌^◌, ◌<◌, length, get_or, ℤ, pos, neg_ℤ}
use Rattle.std.proofs.Common.{ap, ap₂, sym, ◌∙◌, arith, add_comm}
use Rattle.std.proofs.lemmas.List.{map-append}
use Rattle.std.proofs.lemmas.Simd.{map-map}
use Rattle.std.proofs.Math.Nat.{two-pow-succ}
use Rattle.numbers.specs.Sums.{sum, total}
use Rattle.numbers.specs.SumsLaws.{sum-append, total_split, total_same, total-add}
use Rattle.words.specs.Bits.{digits, ones}
use Rattle.words.specs.Kinds.{kinds, encoded, all_bits}
use Rattle.decoding.specs.Readings.{turn, correlation}
use Rattle.decoding.specs.TurnedBest.{all_by_first}
use Rattle.hadamard.specs.Hadamard.{hadamard, entry, bits_of, correlations, SameEntries}
use Rattle.hadamard.proofs.HadamardLaws.{length-hadamard}
use Rattle.hadamard.proofs.FirstOrderLaws.{correlation-word}
use Rattle.hadamard.proofs.EncodedLaws.{bits_first, bits_second, sum-first_order, encoded-bits_of}

-- ---- all information bits
pub all_places : (f : List ℕ → ℕ) (m : ℕ) → sum (map f (all_bits (suc m))) ≡ total (λ s. f (bits_of m s 0) + f (bits_of m s 1)) (2 ^ m)
unfolding all_bits total sum bits_of digits ones
all_places f zero = omega arith
all_places f (suc m) =
    let n = 2 ^ m in
    let at : (ℕ → ℕ) = λ s. f (bits_of (suc m) s 0) + f (bits_of (suc m) s 1) in
    let first : total at n ≡ sum (map (λ b. f (0 ∷ b)) (all_bits (suc m))) =
    total_same at (λ s. f (0 ∷ bits_of m s 0) + f (0 ∷ bits_of m s 1)) n (λ s h. ap₂ ◌+◌ (ap f (bits_first m s 0 h)) (ap f (bits_first m s 1 h)))
    ∙ sym (all_places (λ b. f (0 ∷ b)) m) in
    let second : total (λ s. at (n + s)) n ≡ sum (map (λ b. f (1 ∷ b)) (all_bits (suc m))) =
    total_same (λ s. at (n + s)) (λ s. f (1 ∷ bits_of m s 0) + f (1 ∷ bits_of m s 1)) n
    (λ s h.
    ap₂ ◌+◌ (ap f (bits_second m s 0 h (omega arith))) (ap f (bits_second m s 1 h (omega arith)))
    ∙ add_comm (f (1 ∷ bits_of m s 1)) (f (1 ∷ bits_of m s 0)))
    ∙ sym (all_places (λ b. f (1 ∷ b)) m) in
    all_by_first f (suc m) ∙ sym (ap₂ ◌+◌ first second) ∙ sym (total_split at n n) ∙ ap (total at) (sym (two-pow-succ m))

-- ---- all correlations
-- of one word, by its bits
pub correlation_bits : (m : ℕ) (l : List ℤ) → length l ≡ 2 ^ m → (s e : ℕ) → s < 2 ^ m → e < 2
    → correlation l (encoded m (kinds 1 m) (bits_of m s e)) ≡ turn e (entry m l s)
correlation_bits m l long s e h g = ap (correlation l) (encoded-bits_of m s e h g) ∙ correlation-word m s e l h g long

total_entries : (g : ℤ → ℕ) (h : List ℤ) → total (λ i. g (get_or h i (pos 0))) (length h) ≡ sum (map g h)
unfolding total sum
total_entries g [] = refl
total_entries g (x ∷ h) = ap (λ (n : ℕ). g x + n) (total_entries g h)

pub all-correlations : (m : ℕ) (l : List ℤ) → length l ≡ 2 ^ m → SameEntries (correlations m l) (hadamard m l ++ map neg_ℤ (hadamard m l))
unfolding correlations
all-correlations m l long g =
    let row = hadamard m l in
    let minus : List ℤ = map neg_ℤ row in
    let word : List ℕ → ℤ = λ b. correlation l (encoded m (kinds 1 m) b) in
    let c : List ℕ → ℕ = λ b. g (word b) in
    ap sum (map-map g word (all_bits (sum (kinds 1 m))))
    ∙ ap (λ (k : ℕ). sum (map c (all_bits k))) (sum-first_order m)
    ∙ all_places c m
    ∙ total_same (λ s. c (bits_of m s 0) + c (bits_of m s 1)) (λ s. g (entry m l s) + g (neg_ℤ (entry m l s))) (2 ^ m)
    (λ s h. ap₂ ◌+◌ (ap g (correlation_bits m l long s 0 h (omega arith))) (ap g (correlation_bits m l long s 1 h (omega arith))))
    ∙ total-add (λ s. g (entry m l s)) (λ s. g (neg_ℤ (entry m l s))) (2 ^ m)
    ∙ ap (λ (n : ℕ). total (λ s. g (entry m l s)) n + total (λ s. g (neg_ℤ (entry m l s))) n) (sym (length-hadamard m l long))
    ∙ ap₂ ◌+◌ (total_entries g row) (total_entries (λ z. g (neg_ℤ z)) row ∙ ap sum (sym (map-map g neg_ℤ row)))
    ∙ sym (ap sum (map-append g row minus) ∙ sum-append (map g row) (map g minus))
