-- What readings of the wrong sign cost over a set without the all-ones word, as shortening can leave one. RM(r,m) has that word, so its penalty shows no sign.
-- If the best word of RM(r,m) is in that set, each of its words has, for the negated readings, at least the gap of RM(r,m) more than the best word had.
use Rattle.std.specs.Prelude.{◌≡◌, ℕ, ◌+◌, ◌-◌, ◌^◌, ◌≤◌, length, get_or, ℤ}
use Rattle.std.proofs.Math.Path.{refl, sym}
use Rattle.std.proofs.Common.{ap, subst, ◌∙◌, arith}
use mathlib.Core.List.{List, map}
use Rattle.std.proofs.Math.IntN.{neg_ℤ}
use Rattle.words.specs.Bits.{Bits, xors}
use Rattle.words.specs.Kinds.{kinds, encoded, Frozen, Word, all_ones}
use Rattle.words.specs.TransformLaws.{length-xors, bits_xors, xors-twice, xors_undo}
use Rattle.words.proofs.KindLaws.{length-kinds, bits_kinds, sum_kinds_pos}
use Rattle.words.proofs.InverseLaws.{word-length, word_bits, word_frozen, frozen_word, word-xors}
use Rattle.words.proofs.HalfLaws.{below-ones, word_ones}
use Rattle.words.proofs.AllOnesLaws.{not-zero-last}
use Rattle.decoding.specs.Readings.{penalty, turns}
use Rattle.decoding.specs.Best.{least_penalty, gap, best_bits, best_word}
use Rattle.decoding.specs.BestLaws.{none_less, best_bits_are, best_attains, others_more}
use Rattle.decoding.specs.TurnLaws.{penalty-turns}
use Rattle.decoding.specs.AllOnes.{turns-ones}

-- negated readings are to a row of bits what the readings are to its opposite
pub penalty-negated : (m : ℕ) (l : List ℤ) (x : List ℕ) → length l ≡ 2 ^ m → length x ≡ 2 ^ m → Bits x
    → penalty (map neg_ℤ l) x ≡ penalty l (xors x (all_ones m))
penalty-negated m l x e f h =
    let c : List ℕ = all_ones m in
    let b = below-ones m in
    let same : length x ≡ length c = f ∙ sym b.long in
    let y = xors x c in
    ap (λ (k : List ℤ). penalty k x) (sym (turns-ones (2 ^ m) l e))
    ∙ ap (penalty (turns c l)) (sym (xors-twice x c same h))
    ∙ penalty-turns c l y (b.long ∙ sym e) (length-xors x c same ∙ f ∙ sym e) b.are_bits (bits_xors x c)

-- a set whose last index is frozen does not have the all-ones word
pub last_frozen : (m : ℕ) (ks : List ℕ) → length ks ≡ 2 ^ m → get_or ks (2 ^ m - 1) 0 ≡ 0 → Word m ks (all_ones m) → ⊥
last_frozen m ks f z w = not-zero-last m (word_frozen m ks (all_ones m) f w (2 ^ m - 1) z)

-- the information indices of ks are some of those of RM(r,m); the best word of RM(r,m) is a word of ks, and the all-ones word is not
module _ (r m : ℕ) (ks : List ℕ) (l : List ℤ) (e : length l ≡ 2 ^ m) (f : length ks ≡ 2 ^ m) (inside : Frozen (kinds r m) ks)
    (best : Word m ks (best_word m (kinds r m) l)) (no_ones : Word m ks (all_ones m) → ⊥) where
  pub wrong_sign : (x : List ℕ) → Word m ks x → least_penalty m (kinds r m) l + gap m (kinds r m) l ≤ penalty (map neg_ℤ l) x
  unfolding best_word
  wrong_sign x w =
      let js = kinds r m in
      let long_x = word-length m ks x f w in
      let bits_x = word_bits m ks x f w in
      let in_code : Word m js x =
      frozen_word m js x (length-kinds r m) (bits_kinds r m) long_x bits_x (λ i z. word_frozen m ks x f w i (inside i z)) in
      let ones = below-ones m in
      let y = xors x (all_ones m) in
      let v = word-xors m js x (all_ones m) (length-kinds r m) in_code (word_ones r m) in
      let other : v.bits ≡ best_bits m js l → ⊥ = λ z.
      let y_is : best_word m js l ≡ y = sym (ap (encoded m js) z) ∙ v.gives in
      no_ones
      (subst (Word m ks) (xors_undo x (all_ones m) (long_x ∙ sym ones.long) ones.are_bits) (word-xors m ks x y f w (subst (Word m ks) y_is best))) in
      rw (penalty-negated m l x e long_x bits_x, ← v.gives) (others_more m js l (sum_kinds_pos r m) v.bits (v.long, v.are_bits) other)

  -- so the search over the smaller set has a least penalty that is larger by the gap, for the wrong sign
  pub sign-shown : least_penalty m ks l + gap m (kinds r m) l ≤ least_penalty m ks (map neg_ℤ l)
  unfolding best_word
  sign-shown =
      let negated = map neg_ℤ l in
      let b = best_bits_are m ks negated in
      let here : least_penalty m ks l ≤ penalty l (best_word m (kinds r m) l) =
      rw best.gives at (none_less m ks l best.bits (best.long, best.are_bits)) in
      let there = wrong_sign (encoded m ks (best_bits m ks negated)) (record { bits = best_bits m ks negated; long = b.0; are_bits = b.1; gives = refl }) in
      omega (arith, here, there, best_attains m (kinds r m) l, best_attains m ks negated)
