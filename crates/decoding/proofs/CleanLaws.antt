-- Readings without noise: s where the word c has 0 and -s where it has 1, s at least 1. Every word's penalty is s times its distance from c; so c is the
-- best word, with penalty 0, and the gap is s times the least distance: s × 2^(m-r) for RM(r,m). With the law of the gap (GapLaws) this says what noise
-- a code corrects.
use Rattle.std.specs.Prelude.{◌≡◌, cond, ℕ, zero, suc, ◌+◌, ◌-◌, ◌*◌, ◌^◌, ◌≤◌, ◌<◌, length, replicate, ℤ, pos, eqb}
use Rattle.std.proofs.Math.Path.{refl, ap, sym}
use Rattle.std.proofs.Common.{ap₂, ◌∙◌, arith, suc-ne-zero, mul-one, mul-add, mul-le-mul_left, zero-add, eq-eqb, ne_eqb}
use mathlib.Core.List.{List, [], ◌∷◌, List-discrete}
use Rattle.std.proofs.Math.Nat.{suc_inj, mul-zero, le_antisymm}
use Rattle.std.proofs.Math.Decide.{ℕ_discrete}
use Rattle.std.proofs.lemmas.List.{length-map}
use Rattle.std.proofs.Math.Pow.{pow_pos}
use Rattle.numbers.specs.PartsLaws.{negated}
use Rattle.numbers.specs.Sums.{sum}
use Rattle.words.specs.Bits.{Bits, xors}
use Rattle.words.specs.Kinds.{kinds, encoded, Word}
use Rattle.words.specs.Distance.{weight, distance}
use Rattle.words.specs.TransformLaws.{bits_xors, bits_zeros, xors_undo, xors-zeros}
use Rattle.words.proofs.KindLaws.{length-kinds, bits_kinds, sum_kinds_pos}
use Rattle.words.proofs.InverseLaws.{word-length, word_bits, word-xors, taken_encoded, word_taken}
use Rattle.words.specs.DistanceLaws.{lightest}
use Rattle.words.proofs.DistanceLaws.{distance-weight, distance_least, lightest-word, distance_attained}
use Rattle.decoding.specs.Readings.{loss, turn, penalty}
use Rattle.decoding.specs.Best.{least_penalty, gap, best_bits, best_word}
use Rattle.decoding.specs.BestLaws.{none_less, best_bits_are, best_attains, others_more}
use Rattle.decoding.specs.GapLaws.{drift}
use Rattle.decoding.proofs.GapLaws.{some_next, undrifted_code}
use Rattle.decoding.specs.CleanLaws.{clean, CleanBest}

-- ---- distances
distance_self : (x : List ℕ) → distance x x ≡ 0
unfolding distance
distance_self [] = refl
distance_self (a ∷ x) = rw (eq-eqb a a refl) (omega (arith, distance_self x))

distance_apart : (x y : List ℕ) → length x ≡ length y → (x ≡ y → ⊥) → 1 ≤ distance x y
unfolding distance
distance_apart [] [] e z = absurd (z refl)
distance_apart [] (b ∷ y) e z = absurd (suc-ne-zero (length y) (sym e))
distance_apart (a ∷ x) [] e z = absurd (suc-ne-zero (length x) e)
distance_apart (a ∷ x) (b ∷ y) e z = elim (ℕ_discrete a b) [
  | yes i ↦ omega (arith, distance_apart x y (suc_inj e) (λ j. z (ap₂ ◌∷◌ i j)))
  | no i ↦ rw (ne_eqb a b i) (omega arith)
]

-- ---- penalties
loss-clean : (s a b : ℕ) → a < 2 → b < 2 → loss (turn a (pos s)) b ≡ s * cond (eqb a b) 0 1
loss-clean s zero zero h k = sym (mul-zero s)
loss-clean s zero (suc zero) h k = sym (mul-one s)
loss-clean s (suc zero) zero h k = (negated (pos s)).down-negated ∙ sym (mul-one s)
loss-clean s (suc zero) (suc zero) h k = (negated (pos s)).up-negated ∙ sym (mul-zero s)
loss-clean s zero (suc (suc b)) h k = absurd (omega arith)
loss-clean s (suc zero) (suc (suc b)) h k = absurd (omega arith)
loss-clean s (suc (suc a)) b h k = absurd (omega arith)

pub penalty-clean : (s : ℕ) (c x : List ℕ) → Bits c → Bits x → penalty (clean s c) x ≡ s * distance c x
unfolding penalty distance
penalty-clean s [] x h k = sym (mul-zero s)
penalty-clean s (a ∷ c) [] h k = sym (mul-zero s)
penalty-clean s (a ∷ c) (b ∷ x) h k =
    ap₂ ◌+◌ (loss-clean s a b (h 0) (k 0)) (penalty-clean s c x (λ i. h (suc i)) (λ i. k (suc i))) ∙ sym (mul-add s (cond (eqb a b) 0 1) (distance c x))

module _ (m : ℕ) (ks : List ℕ) (f : length ks ≡ 2 ^ m) (h : Bits ks) (c : List ℕ) (w : Word m ks c) (s : ℕ) (above : 1 ≤ s) where
  penalty_far : (x : List ℕ) → Word m ks x → penalty (clean s c) x ≡ s * distance c x
  penalty_far x v = penalty-clean s c x (word_bits m ks c f w) (word_bits m ks x f v)

  -- a word of penalty 0 is c
  only_clean : (x : List ℕ) → Word m ks x → penalty (clean s c) x ≡ 0 → x ≡ c
  only_clean x v z = elim (List-discrete ℕ_discrete c x) [
    | yes i ↦ sym i
    | no i ↦
        let far = distance_apart c x (word-length m ks c f w ∙ sym (word-length m ks x f v)) i in
        absurd (omega (arith, z, penalty_far x v, mul-le-mul_left s far))
  ]

  pub clean_best : CleanBest m ks c w.bits (clean s c)
  unfolding best_word
  clean_best =
      let l = clean s c in
      let none : least_penalty m ks l ≡ 0 =
      le_antisymm (rw (w.gives, penalty_far c w, distance_self c, mul-zero s) at (none_less m ks l w.bits (w.long, w.are_bits))) (omega arith) in
      let b = best_bits_are m ks l in
      let v : Word m ks (best_word m ks l) = record { bits = best_bits m ks l; long = b.0; are_bits = b.1; gives = refl } in
      let best : best_word m ks l ≡ c = only_clean (best_word m ks l) v (best_attains m ks l ∙ none) in
      let bits : best_bits m ks l ≡ w.bits =
      cc (taken_encoded m ks (best_bits m ks l) f h b.0 b.1, word_taken m ks c f h w, best) in
      record { clean-word = best; clean_bits = bits; clean-penalty = none }

  long_clean : length (clean s c) ≡ 2 ^ m
  long_clean = length-map c (λ b. turn b (pos s)) ∙ word-length m ks c f w

  -- the gap is at least s times the distance that all other words keep from c
  pub clean_apart : 1 ≤ sum ks → (d : ℕ) → ((x : List ℕ) → Word m ks x → (c ≡ x → ⊥) → d ≤ distance c x) → s * d ≤ gap m ks (clean s c)
  clean_apart information d far =
      let l = clean s c in
      let n = some_next m ks f h information l long_clean in
      let x = encoded m ks n.0 in
      let v : Word m ks x = record { bits = n.0; long = n.1.0; are_bits = n.1.1; gives = refl } in
      let other : c ≡ x → ⊥ = λ z.
      let same : n.0 ≡ best_bits m ks l =
      cc (taken_encoded m ks n.0 f h n.1.0 n.1.1, word_taken m ks c f h w, z, clean_best.clean_bits) in
      n.2 same in
      omega (arith, n.3, clean_best.clean-penalty, penalty_far x v, mul-le-mul_left s (far x v other))

-- for RM(r,m)
module _ (r m : ℕ) (below : r ≤ m) (c : List ℕ) (w : Word m (kinds r m) c) (s : ℕ) (above : 1 ≤ s) where
  pub clean_best_code : CleanBest m (kinds r m) c w.bits (clean s c)
  clean_best_code = clean_best m (kinds r m) (length-kinds r m) (bits_kinds r m) c w s above

  -- a word as far from c as the lightest word is from the zero row
  nearest : distance c (xors c (lightest r m)) ≡ 2 ^ (m - r)
  nearest =
      let ks = kinds r m in
      let e = length-kinds r m in
      let x = lightest r m in
      let v = lightest-word r m below in
      let long = word-length m ks x e v in
      let bits = word_bits m ks x e v in
      distance-weight c (xors c x) (word_bits m ks c e w) (bits_xors c x)
      ∙ ap weight (xors_undo c x (word-length m ks c e w ∙ sym long) bits ∙ sym (xors-zeros (2 ^ m) x long bits))
      ∙ sym (distance-weight x (replicate (2 ^ m) 0) bits (bits_zeros (2 ^ m))) ∙ distance_attained r m below

  pub clean-gap : gap m (kinds r m) (clean s c) ≡ s * 2 ^ (m - r)
  unfolding best_word
  clean-gap =
      let ks = kinds r m in
      let e = length-kinds r m in
      let bits = bits_kinds r m in
      let l = clean s c in
      let y = xors c (lightest r m) in
      let v = word-xors m ks c (lightest r m) e w (lightest-word r m below) in
      let other : v.bits ≡ best_bits m ks l → ⊥ = λ z.
      let same : y ≡ c = sym v.gives ∙ ap (encoded m ks) z ∙ clean_best_code.clean-word in
      omega (arith, nearest, ap (distance c) same, distance_self c, pow_pos (m - r)) in
      let most : gap m ks l ≤ penalty l y = rw (v.gives, clean_best_code.clean-penalty, zero-add) at
      (others_more m ks l (sum_kinds_pos r m) v.bits (v.long, v.are_bits) other) in
      le_antisymm (rw (penalty_far m ks e bits c w s above y v, nearest) at most)
      (clean_apart m ks e bits c w s above (sum_kinds_pos r m) (2 ^ (m - r)) (λ x u z. distance_least r m c x below w u z))

  -- so noise whose sizes add up to less than s × 2^(m-r) is corrected, wherever it falls
  pub noise_corrected : (l : List ℤ) → length l ≡ 2 ^ m → drift (clean s c) l < s * 2 ^ (m - r) → (best_word m (kinds r m) l ≡ c) × (0 < gap m (kinds r m) l)
  noise_corrected l e small =
      let kept = undrifted_code r m (clean s c) l (long_clean m (kinds r m) (length-kinds r m) (bits_kinds r m) c w s above) e (rw clean-gap small) in
      (kept.same_word ∙ clean_best_code.clean-word, kept.gap-left)
