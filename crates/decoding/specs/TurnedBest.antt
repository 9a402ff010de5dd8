-- Readings negated by a word of the set: the penalties of all words are the same in another order, so least penalty and gap are equal with no premise;
-- if the gap is above 0, the best word and its bits have the word and its bits added.
use Rattle.std.specs.Prelude.{◌≡◌, refl, List, [], ◌∷◌, map, length, ℤ}
use Rattle.std.proofs.Math.Path.{ap, ap₂, sym}
use Rattle.std.proofs.Common.{◌∙◌, ⊎_elim, arith, suc-ne-zero, add_comm, eq-eqb}
use Rattle.std.proofs.lemmas.Simd.{map-map}
use Rattle.std.proofs.lemmas.List.{map-append}
use Prim.Native.Nat.{ℕ, zero, suc, ◌+◌, ◌-◌, ◌^◌, ◌≤◌, ◌<◌}
use Rattle.std.proofs.Math.Nat.{suc_inj, zero-sub}
use Rattle.numbers.specs.Choice.{lt_or_le}
use Rattle.numbers.specs.Sums.{sum}
use Rattle.numbers.specs.SumsLaws.{sum-append}
use Rattle.numbers.specs.Least.{least, without, next}
use Rattle.numbers.specs.LeastLaws.{Reordered, least-reordered, next-reordered}
use Rattle.numbers.specs.EntryLaws.{map_same}
use Rattle.words.specs.Bits.{Bits, xors}
use Rattle.words.specs.Kinds.{encoded, all_bits, Word}
use Rattle.words.specs.TransformLaws.{length-xors, bits_xors}
use Rattle.words.proofs.FillLaws.{of_all_bits}
use Rattle.words.proofs.InverseLaws.{encoded-xors, word-length, word_bits}
use Rattle.decoding.specs.Readings.{penalty, turns}
use Rattle.decoding.specs.Best.{penalty_of, penalties, least_penalty, gap, best_bits, best_word}
use Rattle.decoding.specs.BestLaws.{length_best, bits_best, best_attains, best_only}
use Rattle.decoding.specs.TurnLaws.{penalty-turns}

-- ---- all rows of k bits, with the bits c added to each, are all rows of k bits
pub all_by_first : (f : List ℕ → ℕ) (k : ℕ) → sum (map f (all_bits (suc k))) ≡ sum (map (λ b. f (0 ∷ b)) (all_bits k)) + sum (map (λ b. f (1 ∷ b)) (all_bits k))
unfolding all_bits
all_by_first f k =
    let zeros = map (λ b. 0 ∷ b) (all_bits k) in
    let ones = map (λ b. 1 ∷ b) (all_bits k) in
    ap sum (map-append f zeros ones) ∙ sum-append (map f zeros) (map f ones)
    ∙ ap₂ (λ (x y : List ℕ). sum x + sum y) (map-map f (λ b. 0 ∷ b) (all_bits k)) (map-map f (λ b. 1 ∷ b) (all_bits k))

all_added : (k : ℕ) (c : List ℕ) → length c ≡ k → Bits c → (f : List ℕ → ℕ) → sum (map (λ b. f (xors b c)) (all_bits k)) ≡ sum (map f (all_bits k))
unfolding all_bits
all_added zero [] e h f = refl
all_added zero (a ∷ c) e h f = absurd (suc-ne-zero (length c) e)
all_added (suc k) [] e h f = absurd (suc-ne-zero k (sym e))
all_added (suc k) (zero ∷ c) e h f =
    let go = all_added k c (suc_inj e) (λ i. h (suc i)) in
    all_by_first (λ b. f (xors b (0 ∷ c))) k ∙ ap₂ ◌+◌ (go (λ b. f (0 ∷ b))) (go (λ b. f (1 ∷ b))) ∙ sym (all_by_first f k)
all_added (suc k) (suc zero ∷ c) e h f =
    let go = all_added k c (suc_inj e) (λ i. h (suc i)) in
    all_by_first (λ b. f (xors b (1 ∷ c))) k ∙ ap₂ ◌+◌ (go (λ b. f (1 ∷ b))) (go (λ b. f (0 ∷ b)))
    ∙ add_comm (sum (map (λ b. f (1 ∷ b)) (all_bits k))) (sum (map (λ b. f (0 ∷ b)) (all_bits k))) ∙ sym (all_by_first f k)
all_added (suc k) (suc (suc a) ∷ c) e h f = absurd (omega (arith, h 0))

-- ---- a set of one word has no gap
gap_of_one : (m : ℕ) (ks : List ℕ) (l : List ℤ) → sum ks ≡ 0 → gap m ks l ≡ 0
unfolding gap penalties next least without all_bits
gap_of_one m ks l z = rw (z, eq-eqb (penalty_of m ks l []) (penalty_of m ks l []) refl) (zero-sub (least_penalty m ks l))

gap_information : (m : ℕ) (ks : List ℕ) (l : List ℤ) → 0 < gap m ks l → 1 ≤ sum ks
gap_information m ks l h = ⊎_elim (λ k. k) (λ k. absurd (omega (arith, gap_of_one m ks l (omega arith)))) (lt_or_le 0 (sum ks))

-- ---- the readings l, negated by the word c
module _ (m : ℕ) (ks : List ℕ) (l : List ℤ) (c : List ℕ) (g : length ks ≡ 2 ^ m) (e : length l ≡ 2 ^ m) (w : Word m ks c) where
  -- the word with c added has the penalty that the word had
  penalty_added : (b : List ℕ) → length b ≡ sum ks → Bits b → penalty_of m ks (turns c l) (xors b w.bits) ≡ penalty_of m ks l b
  penalty_added b long bits =
      let x = encoded m ks b in
      let v : Word m ks x = record { bits = b; long = long; are_bits = bits; gives = refl } in
      ap (penalty (turns c l)) (encoded-xors m ks b w.bits g (long ∙ sym w.long) ∙ ap (xors x) w.gives)
      ∙ penalty-turns c l x (word-length m ks c g w ∙ sym e) (word-length m ks x g v ∙ sym e) (word_bits m ks c g w) (word_bits m ks x g v)

  penalties-reordered : Reordered (penalties m ks (turns c l)) (penalties m ks l)
  unfolding penalties
  penalties-reordered f =
      let all = all_bits (sum ks) in
      let turned = penalty_of m ks (turns c l) in
      ap sum (map-map f turned all)
      ∙ sym (all_added (sum ks) w.bits w.long w.are_bits (λ b. f (turned b)))
      ∙ ap sum
      (map_same (λ b. f (turned (xors b w.bits))) (λ b. f (penalty_of m ks l b)) all
      (λ b i. let r = of_all_bits (sum ks) b i in ap f (penalty_added b r.0 r.1))
      ∙ sym (map-map f (penalty_of m ks l) all))

  pub least-turned : least_penalty m ks (turns c l) ≡ least_penalty m ks l
  unfolding least_penalty
  least-turned = least-reordered (penalties m ks (turns c l)) (penalties m ks l) penalties-reordered

  pub gap-turned : gap m ks (turns c l) ≡ gap m ks l
  unfolding gap
  gap-turned = ap₂ ◌-◌ (next-reordered (penalties m ks (turns c l)) (penalties m ks l) penalties-reordered) least-turned

  -- if the gap is above 0: the best word's bits with those of c added
  pub best_bits-turned : 0 < gap m ks l → best_bits m ks (turns c l) ≡ xors (best_bits m ks l) w.bits
  best_bits-turned above =
      let b = best_bits m ks l in
      let long = length_best m ks l in
      sym
      (best_only m ks (turns c l) (gap_information m ks l above) (rw gap-turned above) (xors b w.bits)
      (length-xors b w.bits (long ∙ sym w.long) ∙ long, bits_xors b w.bits)
      (penalty_added b long (bits_best m ks l) ∙ best_attains m ks l ∙ sym least-turned))

  -- and the best word with c added
  pub best_word-turned : 0 < gap m ks l → best_word m ks (turns c l) ≡ xors (best_word m ks l) c
  unfolding best_word
  best_word-turned above =
      ap (encoded m ks) (best_bits-turned above)
      ∙ encoded-xors m ks (best_bits m ks l) w.bits g (length_best m ks l ∙ sym w.long)
      ∙ ap (xors (encoded m ks (best_bits m ks l))) w.gives
