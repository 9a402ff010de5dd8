-- Readings negated by the all-ones word, that is all of them: the walk holds the same penalties and makes the same visits, with no premise on values.
-- Only the value at the last index changes its sign, and there the first extension costs nothing and the second the value's size, either way.
use Rattle.std.specs.Prelude.{◌≡◌, ℕ, zero, suc, ◌+◌, ◌-◌, ◌^◌, ◌%◌, ◌≤◌, ◌<◌, length, get_or, replicate, ℤ, pos, negsuc, neg_ℤ}
use Rattle.std.proofs.Math.Path.{refl, ap}
use Rattle.std.proofs.Common.{ap₂, sym, ◌∙◌, arith, suc-ne-zero, not-suc-le-zero, le_of_suc-le-suc}
use mathlib.Core.List.{List, [], ◌∷◌, ◌++◌, map}
use Rattle.std.proofs.Math.Nat.{suc_inj, zero-add, add-zero}
use Rattle.std.proofs.Math.IntN.{nat_abs}
use Rattle.numbers.specs.Choice.{cond_two}
use Rattle.numbers.specs.Halves.{length_more}
use Rattle.words.specs.Bits.{Bits}
use Rattle.words.specs.Word.{transform}
use Rattle.words.specs.Kinds.{Word, all_ones}
use Rattle.words.specs.TransformLaws.{bits_more, length-transform, bits_transform, transform-twice}
use Rattle.words.proofs.AllOnesLaws.{zero-early}
use Rattle.words.proofs.InverseLaws.{word-length, word_bits, word_frozen}
use Rattle.decoding.specs.Readings.{loss, turn, turns}
use Rattle.decoding.specs.Quick.{hard}
use Rattle.decoding.specs.Walk.{value, State, start, dropped, visited, finished, extend, walk, walked, needed}
use Rattle.decoding.specs.PathLaws.{loss-hard, hard_bit}
use Rattle.decoding.specs.HeldLaws.{state_by, dropped_by, finished_by}
use Rattle.decoding.specs.TurnLaws.{size-turn, changed, value-turned}
use Rattle.decoding.specs.TurnedWalk.{later}

-- the bit that a value does not speak for loses its size
other_loss : (x : ℤ) → loss x (1 - hard x) ≡ nat_abs x
other_loss (pos n) = refl
other_loss (negsuc n) = refl

-- ---- states up to their paths
abbrev pub bare : State → State
bare s = state_by (λ u. []) s

-- penalties and visits after an extension, where losses and what is below are the same
extend-bare : (onward onward' : List ℕ → ℕ → State → State) (x x' : ℤ) (u u' : List ℕ) (p b b' : ℕ) (s s' : State) → bare s' ≡ bare s → loss x' b' ≡ loss x b
    → bare (onward' (u' ++ b' ∷ []) (p + loss x b) (visited s')) ≡ bare (onward (u ++ b ∷ []) (p + loss x b) (visited s))
    → bare (extend onward' x' u' p b' s') ≡ bare (extend onward x u p b s)
extend-bare onward onward' x x' u u' p b b' s s' same same_loss below =
    let q = p + loss x b in
    let alike : dropped s'.held q ≡ dropped s.held q =
    sym (dropped_by (λ u. []) s'.held q) ∙ ap (λ (t : State). dropped t.held q) same ∙ dropped_by (λ u. []) s.held q in
    rw (same_loss, alike)
    (cond_two (λ (y z : State). bare y ≡ bare z) (dropped s.held q) _ _ _ _ (λ z. ap visited same) (λ z. below))

-- the same after both extensions of an information index
both_bare : (onward onward' : List ℕ → ℕ → State → State) (x x' : ℤ) (u : List ℕ) (p : ℕ) (s s' : State) → bare s' ≡ bare s → nat_abs x' ≡ nat_abs x
    → ((b b' q : ℕ) (t t' : State) → b < 2 → (x' ≡ x → b' ≡ b) → bare t' ≡ bare t → bare (onward' (u ++ b' ∷ []) q t') ≡ bare (onward (u ++ b ∷ []) q t))
    → bare (extend onward' x' u p (1 - hard x') (extend onward' x' u p (hard x') s')) ≡ bare (extend onward x u p (1 - hard x) (extend onward x u p (hard x) s))
both_bare onward onward' x x' u p s s' same size below =
    let first = p + loss x (hard x) in
    let second = p + loss x (1 - hard x) in
    let s1 = extend onward x u p (hard x) s in
    let s1' = extend onward' x' u p (hard x') s' in
    let same1 : bare s1' ≡ bare s1 =
    extend-bare onward onward' x x' u u p (hard x) (hard x') s s' same (loss-hard x' ∙ sym (loss-hard x))
    (below (hard x) (hard x') first (visited s) (visited s') (hard_bit x) (ap hard) (ap visited same)) in
    extend-bare onward onward' x x' u u p (1 - hard x) (1 - hard x') s1 s1' same1 (other_loss x' ∙ size ∙ sym (other_loss x))
    (below (1 - hard x) (1 - hard x') second (visited s1) (visited s1') (omega arith) (ap (λ (y : ℤ). 1 - hard y)) (ap visited same1))

finished-bare : (u u' : List ℕ) (p : ℕ) (s s' : State) → bare s' ≡ bare s → bare (finished u' p s') ≡ bare (finished u p s)
finished-bare u u' p s s' same = sym (finished_by (λ u. []) u' p s') ∙ ap (finished [] p) same ∙ finished_by (λ u. []) u p s

-- ---- a row v that is zero before its last index changes only full paths
changed-early : (u v : List ℕ) → length u ≤ length v → Bits u → ((i : ℕ) → i < length u → get_or v i 0 ≡ 0) → changed u v ≡ u
changed-early [] v g h z = refl
changed-early (a ∷ u) [] g h z = absurd (not-suc-le-zero g)
changed-early (a ∷ u) (b ∷ v) g h z =
    let same : (a + b) % 2 ≡ a = omega (arith, z 0 (omega arith), h 0) in
    ap₂ ◌∷◌ same (changed-early u v (le_of_suc-le-suc g) (λ i. h (suc i)) (λ i k. z (suc i) (omega arith)))

module _ (m : ℕ) (l : List ℤ) (v : List ℕ) (e : length l ≡ 2 ^ m) (f : length v ≡ 2 ^ m) (bits : Bits v)
    (early : (i : ℕ) → suc i < 2 ^ m → get_or v i 0 ≡ 0) where
  abbrev l' : List ℤ
  l' = turns (transform m v) l

  value-early : (u : List ℕ) → length u < 2 ^ m → Bits u → value m l' u ≡ turn (get_or v (length u) 0) (value m l u)
  value-early u g h =
      ap (value m l') (sym (changed-early u v (omega arith) h (λ i k. early i (omega arith)))) ∙ value-turned m l u v e f g h bits

  walk-early : (ks u : List ℕ) (p : ℕ) (s s' : State) → length u + length ks ≡ 2 ^ m → Bits u
      → ((i : ℕ) → get_or ks i 0 ≡ 0 → get_or v (length u + i) 0 ≡ 0) → bare s' ≡ bare s
      → bare (walk m l' ks u p s') ≡ bare (walk m l ks u p s)
  unfolding walk
  walk-early [] u p s s' g h frozen same = finished-bare u u p s s' same
  walk-early (zero ∷ ks) u p s s' g h frozen same =
      let still : value m l' u ≡ value m l u =
      value-early u (omega arith) h ∙ ap (λ (a : ℕ). turn a (value m l u)) (rw add-zero at (frozen 0 refl)) in
      extend-bare (walk m l ks) (walk m l' ks) (value m l u) (value m l' u) u u p 0 0 s s' same (ap (λ (x : ℤ). loss x 0) still)
      (walk-early ks (u ++ 0 ∷ []) (p + loss (value m l u) 0) (visited s) (visited s') (omega (arith, length_more u 0)) (bits_more u 0 h (omega arith))
      (later v u 0 0 ks frozen) (ap visited same))
  walk-early (suc k ∷ []) u p s s' g h frozen same =
      both_bare (walk m l []) (walk m l' []) (value m l u) (value m l' u) u p s s' same
      (ap nat_abs (value-early u (omega arith) h) ∙ size-turn (get_or v (length u) 0) (value m l u))
      (λ b b' q t t' j z w. finished-bare (u ++ b ∷ []) (u ++ b' ∷ []) q t t' w)
  walk-early (suc k ∷ j ∷ ks) u p s s' g h frozen same =
      let still : value m l' u ≡ value m l u =
      value-early u (omega arith) h ∙ ap (λ (a : ℕ). turn a (value m l u)) (early (length u) (omega arith)) in
      both_bare (walk m l (j ∷ ks)) (walk m l' (j ∷ ks)) (value m l u) (value m l' u) u p s s' same (ap nat_abs still)
      (λ b b' q t t' i z w. ap (λ (c : ℕ). bare (walk m l' (j ∷ ks) (u ++ c ∷ []) q t')) (z still)
      ∙ walk-early (j ∷ ks) (u ++ b ∷ []) q t t' (omega (arith, length_more u b)) (bits_more u b h i) (later v u b (suc k) (j ∷ ks) frozen) w)

-- ---- the row of the all-ones word is such a row (`zero-early`)
-- and the readings are all negated
pub turns-ones : (n : ℕ) (l : List ℤ) → length l ≡ n → turns (replicate n 1) l ≡ map neg_ℤ l
turns-ones zero [] e = refl
turns-ones zero (r ∷ l) e = absurd (suc-ne-zero (length l) e)
turns-ones (suc n) [] e = absurd (suc-ne-zero n (sym e))
turns-ones (suc n) (r ∷ l) e = ap (λ (k : List ℤ). neg_ℤ r ∷ k) (turns-ones n l (suc_inj e))

-- if the all-ones word is a word of the set
module _ (m : ℕ) (ks : List ℕ) (l : List ℤ) (g : length ks ≡ 2 ^ m) (e : length l ≡ 2 ^ m) (w : Word m ks (all_ones m)) where
  pub walked-negated : bare (walked m ks (turns (all_ones m) l)) ≡ bare (walked m ks l)
  unfolding walked
  walked-negated =
      let v = transform m (all_ones m) in
      let long = word-length m ks (all_ones m) g w in
      let bits = word_bits m ks (all_ones m) g w in
      ap (λ (c : List ℕ). bare (walk m (turns c l) ks [] 0 start)) (sym (transform-twice m (all_ones m) long bits))
      ∙ walk-early m l v e (length-transform m (all_ones m) long) (bits_transform m (all_ones m) bits) (zero-early m) ks [] 0 start start
      (omega arith) (λ i. omega arith) (λ i k. rw zero-add (word_frozen m ks (all_ones m) g w i k)) refl

  -- the same visits
  pub needed-negated : needed m ks (turns (all_ones m) l) ≡ needed m ks l
  needed-negated = ap (λ (s : State). s.visits) walked-negated
