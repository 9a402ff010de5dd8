-- The walk on readings that are negated by a word: with no value of zero at an information index where a path is extended,
-- it is the walk on the readings, with the word's row added to each path that is held. Penalties and visits are the same.
use Rattle.std.specs.Prelude.{◌≡◌, refl, ℕ, zero, suc, ◌+◌, ◌-◌, ◌^◌, ◌%◌, ◌<◌, length, ℤ, pos, negsuc}
use Rattle.std.proofs.Math.Path.{ap, ap₂}
use Rattle.std.proofs.Common.{sym, ◌∙◌, arith, zero-add, take_all}
use Rattle.std.proofs.Math.Bool.{false}
use mathlib.Core.List.{List, [], ◌∷◌, ◌++◌}
use Rattle.std.proofs.Math.Nat.{add-zero}
use Rattle.std.proofs.Math.ListN.{get_or}
use Rattle.numbers.specs.Choice.{cond_two}
use Rattle.numbers.specs.Halves.{length_more}
use Rattle.words.specs.Bits.{Bits, xors}
use Rattle.words.specs.Word.{transform}
use Rattle.words.specs.Kinds.{fill, Word}
use Rattle.words.specs.TransformLaws.{bits_more}
use Rattle.words.proofs.FillLaws.{length-fill, bits_fill, frozen_fill}
use Rattle.decoding.specs.Readings.{loss, turn, turns}
use Rattle.decoding.specs.Quick.{hard}
use Rattle.decoding.specs.Walk.{value, State, start, dropped, visited, finished, extend, walk, walked, NeverZero}
use Rattle.decoding.specs.PathLaws.{hard_bit}
use Rattle.decoding.specs.HeldLaws.{state_by, dropped_by, finished_by}
use Rattle.decoding.specs.TurnLaws.{loss-turn, changed, changed-more, value-turned}

-- what is held, with the row v added to each path
abbrev pub row_added : List ℕ → State → State
row_added v s = state_by (λ u. xors u v) s

finished-changed : (v u : List ℕ) (p : ℕ) (s : State) → length u ≡ length v → finished (changed u v) p (row_added v s) ≡ row_added v (finished u p s)
finished-changed v u p s e =
    ap (λ (x : List ℕ). finished (xors u x) p (row_added v s)) (take_all (length u) v (omega arith)) ∙ finished_by (λ x. xors x v) u p s

-- ---- one index
-- a value that is not zero speaks, turned, for the turned bit
hard-turned : (a : ℕ) (x : ℤ) → a < 2 → (x ≡ pos 0 → ⊥) → hard (turn a x) ≡ (hard x + a) % 2
hard-turned zero (pos n) h z = refl
hard-turned zero (negsuc n) h z = refl
hard-turned (suc zero) (pos zero) h z = absurd (z refl)
hard-turned (suc zero) (pos (suc n)) h z = refl
hard-turned (suc zero) (negsuc n) h z = refl
hard-turned (suc (suc a)) x h z = absurd (omega arith)

other_turned : (b a : ℕ) → b < 2 → a < 2 → 1 - (b + a) % 2 ≡ (1 - b + a) % 2
other_turned zero a h k = omega arith
other_turned (suc zero) a h k = omega arith
other_turned (suc (suc b)) a h k = absurd (omega arith)

-- a row v that is zero at the frozen indices still to come, seen from the next index
pub later : (v u : List ℕ) (b k : ℕ) (ks : List ℕ) → ((i : ℕ) → get_or (k ∷ ks) i 0 ≡ 0 → get_or v (length u + i) 0 ≡ 0)
    → (i : ℕ) → get_or ks i 0 ≡ 0 → get_or v (length (u ++ b ∷ []) + i) 0 ≡ 0
later v u b k ks frozen i z =
    let place : length (u ++ b ∷ []) + i ≡ length u + suc i = omega (arith, length_more u b) in
    ap (λ (n : ℕ). get_or v n 0) place ∙ frozen (suc i) z

-- ---- the walk
-- the readings l, negated by the word of the row v
module _ (m : ℕ) (l : List ℤ) (v : List ℕ) (e : length l ≡ 2 ^ m) (f : length v ≡ 2 ^ m) (bits : Bits v) where
  abbrev l' : List ℤ
  l' = turns (transform m v) l

  -- one extension, by the turned bit
  extend-turned : (onward onward' : List ℕ → ℕ → State → State) (u : List ℕ) (p b : ℕ) (s : State) → length u < 2 ^ m → Bits u → b < 2
      → (dropped s.held (p + loss (value m l u) b) ≡ false
      → onward' (changed (u ++ b ∷ []) v) (p + loss (value m l u) b) (row_added v (visited s))
      ≡ row_added v (onward (u ++ b ∷ []) (p + loss (value m l u) b) (visited s)))
      → extend onward' (value m l' (changed u v)) (changed u v) p ((b + get_or v (length u) 0) % 2) (row_added v s)
      ≡ row_added v (extend onward (value m l u) u p b s)
  extend-turned onward onward' u p b s g h k below =
      let a = get_or v (length u) 0 in
      let x = value m l u in
      let same_loss : loss (value m l' (changed u v)) ((b + a) % 2) ≡ loss x b =
      ap (λ (z : ℤ). loss z ((b + a) % 2)) (value-turned m l u v e f g h bits) ∙ loss-turn a b x (bits (length u)) k in
      rw (same_loss, ← changed-more u v b (omega arith), dropped_by (λ x. xors x v) s.held (p + loss x b))
      (cond_two (λ (y z : State). y ≡ row_added v z) (dropped s.held (p + loss x b)) _ _ _ _ (λ z. refl) below)

  -- from the path u on, where the row v is zero at the frozen indices that are still to come
  walk-turned : (ks u : List ℕ) (p : ℕ) (s : State) → length u + length ks ≡ 2 ^ m → Bits u
      → ((i : ℕ) → get_or ks i 0 ≡ 0 → get_or v (length u + i) 0 ≡ 0) → NeverZero m l ks u p s
      → walk m l' ks (changed u v) p (row_added v s) ≡ row_added v (walk m l ks u p s)
  unfolding walk NeverZero
  walk-turned [] u p s g h frozen never = finished-changed v u p s (omega arith)
  walk-turned (zero ∷ ks) u p s g h frozen never =
      let same_bit : 0 ≡ (0 + get_or v (length u) 0) % 2 = omega (arith, rw add-zero at (frozen 0 refl)) in
      ap (λ (b' : ℕ). extend (walk m l' ks) (value m l' (changed u v)) (changed u v) p b' (row_added v s)) same_bit
      ∙ extend-turned (walk m l ks) (walk m l' ks) u p 0 s (omega arith) h (omega arith)
      (λ z. walk-turned ks (u ++ 0 ∷ []) (p + loss (value m l u) 0) (visited s) (omega (arith, length_more u 0)) (bits_more u 0 h (omega arith))
      (later v u 0 0 ks frozen) (never z))
  walk-turned (suc k ∷ ks) u p s g h frozen never =
      let a = get_or v (length u) 0 in
      let x = value m l u in
      let x' = value m l' (changed u v) in
      let s1 = extend (walk m l ks) x u p (hard x) s in
      let first : hard x' ≡ (hard x + a) % 2 =
      ap hard (value-turned m l u v e f (omega arith) h bits) ∙ hard-turned a x (bits (length u)) never.0 in
      let second : 1 - hard x' ≡ (1 - hard x + a) % 2 = ap (λ (b : ℕ). 1 - b) first ∙ other_turned (hard x) a (hard_bit x) (bits (length u)) in
      let go : (b : ℕ) → b < 2 → (t : State) → (dropped t.held (p + loss x b) ≡ false → NeverZero m l ks (u ++ b ∷ []) (p + loss x b) (visited t))
      → extend (walk m l' ks) x' (changed u v) p ((b + a) % 2) (row_added v t) ≡ row_added v (extend (walk m l ks) x u p b t) =
      λ b j t n. extend-turned (walk m l ks) (walk m l' ks) u p b t (omega arith) h j
      (λ z. walk-turned ks (u ++ b ∷ []) (p + loss x b) (visited t) (omega (arith, length_more u b)) (bits_more u b h j)
      (later v u b (suc k) ks frozen) (n z)) in
      ap₂ (λ (b : ℕ) (t : State). extend (walk m l' ks) x' (changed u v) p b t) second
      (ap (λ (b : ℕ). extend (walk m l' ks) x' (changed u v) p b (row_added v s)) first ∙ go (hard x) (hard_bit x) s never.1)
      ∙ go (1 - hard x) (omega arith) s1 never.2

-- the whole walk on the readings l, negated by the word c
pub walked-turned : (m : ℕ) (ks : List ℕ) (l : List ℤ) (c : List ℕ) → length ks ≡ 2 ^ m → length l ≡ 2 ^ m → (w : Word m ks c) → NeverZero m l ks [] 0 start
    → walked m ks (turns c l) ≡ row_added (fill ks w.bits) (walked m ks l)
unfolding walked
walked-turned m ks l c g e w never =
    let v = fill ks w.bits in
    ap (λ (x : List ℕ). walk m (turns x l) ks [] 0 start) (sym w.gives)
    ∙ walk-turned m l v e (length-fill ks w.bits ∙ g) (bits_fill ks w.bits w.are_bits) ks [] 0 start
    (omega arith) (λ i. omega arith) (λ i k. rw zero-add (frozen_fill ks w.bits i k)) never
