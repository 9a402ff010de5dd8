-- Laws of values and of a path's penalty: a full path's penalty is its word's; a path's penalty is the least of all rows that begin with it.
use Rattle.std.specs.Prelude.{◌≡◌, length, take, drop, ℤ, pos, negsuc, nat_abs, ltb}
use Rattle.std.proofs.Math.Path.{refl, ap}
use Rattle.std.proofs.Common.{ap₂, sym, ◌∙◌, ⊎_elim, le_of_lt, le_trans, le-add_right, add-zero, zero-add, add_assoc, length-append, length-drop}
use Rattle.std.proofs.Common.{take-append-drop, drop_of_length-le, length-take-le, take_all, lt-ltb, le-ltb}
use mathlib.Core.List.{List, [], ◌∷◌, ◌++◌, append-nil, append_assoc}
use Prim.Native.Nat.{ℕ, zero, suc, ◌+◌, ◌-◌, ◌^◌, ◌≤◌, ◌<◌}
use native.Mathlib.Omega.{arith}
use Rattle.std.proofs.Math.Nat.{two-pow-succ}
use Rattle.std.proofs.lemmas.List.{take-append-le, drop-append-le}
use Rattle.std.proofs.Math.Seq.{take-nil, drop-nil}
use Rattle.numbers.specs.Choice.{cond_by, lt_or_le}
use Rattle.numbers.specs.Halves.{length-first, length-second, length_more}
use Rattle.words.specs.Bits.{Bits, xors}
use Rattle.words.specs.Word.{transform}
use Rattle.words.specs.TransformLaws.{length-xors, length-transform, bits_transform, bits_take, bits_drop, bits_append}
use Rattle.decoding.specs.Readings.{loss, penalty, sizes}
use Rattle.decoding.specs.Quick.{hard, lower_row, upper_row}
use Rattle.decoding.specs.Walk.{value, added_by, path_penalty}
use Rattle.decoding.specs.StepLaws.{long_lower_row, long_upper_row, halves_penalty, penalty-append}
use Rattle.decoding.specs.StepLaws.{entry-sizes, sizes-lower_row, sizes-upper_row, penalty-sizes}

-- ---- values
pub value-sizes : (m : ℕ) (l : List ℤ) (u : List ℕ) → nat_abs (value m l u) ≤ sizes l
unfolding value
value-sizes zero l u = entry-sizes l 0
value-sizes (suc m) l u =
    let up = upper_row (2 ^ m) l (transform m (take (2 ^ m) u)) in
    cond_by (λ (z : ℤ). nat_abs z ≤ sizes l) (ltb (length u) (2 ^ m)) _ _
    (λ e. le_trans (value-sizes m (lower_row (2 ^ m) l) u) (sizes-lower_row (2 ^ m) l))
    (λ e. le_trans (value-sizes m up (drop (2 ^ m) u)) (sizes-upper_row (2 ^ m) l (transform m (take (2 ^ m) u))))

-- the bit that a value speaks for loses nothing
pub loss-hard : (v : ℤ) → loss v (hard v) ≡ 0
loss-hard (pos n) = refl
loss-hard (negsuc n) = refl

pub hard_bit : (v : ℤ) → hard v < 2
hard_bit (pos n) = omega arith
hard_bit (negsuc n) = omega arith

-- ---- one choice after the other
module _ (m : ℕ) (l : List ℤ) where
  pub added_append : (u v w : List ℕ) → added_by m l u (v ++ w) ≡ added_by m l u v + added_by m l (u ++ v) w
  unfolding added_by
  added_append u [] w = rw (append-nil u) (sym (zero-add (added_by m l u w)))
  added_append u (b ∷ v) w =
      rw (added_append (u ++ b ∷ []) v w, append_assoc u (b ∷ []) v)
      (sym (add_assoc (loss (value m l u) b) (added_by m l (u ++ b ∷ []) v) (added_by m l (u ++ b ∷ v) w)))

  -- a path that is extended by one bit
  pub path_more : (u : List ℕ) (b : ℕ) → path_penalty m l (u ++ b ∷ []) ≡ path_penalty m l u + loss (value m l u) b
  unfolding added_by
  path_more u b = added_append [] u (b ∷ []) ∙ ap (λ (n : ℕ). path_penalty m l u + n) (add-zero (loss (value m l u) b))

  pub path_rises : (u w : List ℕ) → path_penalty m l u ≤ path_penalty m l (u ++ w)
  path_rises u w = rw (added_append [] u w) (le-add_right (path_penalty m l u) (added_by m l u w))

  -- the bits that the values speak for, d of them after the path u
  unfoldable pub onward : ℕ → List ℕ → List ℕ
  onward zero u = []
  onward (suc d) u =
      let b = hard (value m l u) in
      b ∷ onward d (u ++ b ∷ [])

  added_onward : (d : ℕ) (u : List ℕ) → added_by m l u (onward d u) ≡ 0
  unfolding onward added_by
  added_onward zero u = refl
  added_onward (suc d) u = rw (loss-hard (value m l u), added_onward d (u ++ hard (value m l u) ∷ []))

  pub length-onward : (d : ℕ) (u : List ℕ) → length (onward d u) ≡ d
  unfolding onward
  length-onward zero u = refl
  length-onward (suc d) u = ap suc (length-onward d (u ++ hard (value m l u) ∷ []))

  pub bits_onward : (d : ℕ) (u : List ℕ) → Bits (onward d u)
  unfolding onward
  bits_onward zero u i = omega arith
  bits_onward (suc d) u zero = hard_bit (value m l u)
  bits_onward (suc d) u (suc i) = bits_onward d (u ++ hard (value m l u) ∷ []) i

-- ---- the same penalty by halves
unfoldable by_halves : ℕ → List ℤ → List ℕ → ℕ
by_halves zero l u = penalty l u
by_halves (suc m) l u =
    by_halves m (lower_row (2 ^ m) l) (take (2 ^ m) u) + by_halves m (upper_row (2 ^ m) l (transform m (take (2 ^ m) u))) (drop (2 ^ m) u)

halves_nil : (m : ℕ) (l : List ℤ) → by_halves m l [] ≡ 0
unfolding by_halves penalty
halves_nil zero [] = refl
halves_nil zero (x ∷ l) = refl
halves_nil (suc m) l =
    rw (take-nil (2 ^ m), drop-nil (2 ^ m), halves_nil m (lower_row (2 ^ m) l), halves_nil m (upper_row (2 ^ m) l (transform m [])))

halves_more : (m : ℕ) (l : List ℤ) (u : List ℕ) (b : ℕ) → length l ≡ 2 ^ m → length u < 2 ^ m
    → by_halves m l (u ++ b ∷ []) ≡ by_halves m l u + loss (value m l u) b
unfolding by_halves value penalty
halves_more zero [] u b e h = absurd (omega arith)
halves_more zero (x ∷ []) [] b e h = omega arith
halves_more zero (x ∷ y ∷ l) u b e h = absurd (omega arith)
halves_more zero (x ∷ []) (c ∷ u) b e h = absurd (omega arith)
halves_more (suc m) l u b e h =
    let n = 2 ^ m in
    let v = u ++ b ∷ [] in
    let a = transform m (take n u) in
    ⊎_elim
    (λ (k : length u < 2 ^ m).
    let inside : length v ≤ n = rw (length_more u b) (omega arith) in
    let nil_v = halves_nil m (upper_row n l (transform m v)) in
    let nil_u = halves_nil m (upper_row n l (transform m u)) in
    rw (lt-ltb (length u) n k, take_all n v inside, drop_of_length-le v {i = n} inside, take_all n u (le_of_lt k), drop_of_length-le u {i = n} (le_of_lt k))
    (omega (arith, halves_more m (lower_row n l) u b (long_lower_row m l e) k, nil_v, nil_u)))
    (λ k.
    let up : length (upper_row n l a) ≡ n = long_upper_row m l e a (length-transform m (take n u) (length-take-le n u k)) in
    rw (le-ltb (length u) n k, take-append-le n u (b ∷ []) k, drop-append-le n u (b ∷ []) k)
    (omega (arith, halves_more m (upper_row n l a) (drop n u) b up (simp length-drop (omega (arith, two-pow-succ m))))))
    (lt_or_le (length u) n)

halves_full : (m : ℕ) (l : List ℤ) (u : List ℕ) → length l ≡ 2 ^ m → length u ≡ 2 ^ m → Bits u → by_halves m l u ≡ penalty l (transform m u)
unfolding by_halves transform
halves_full zero l u e f h = refl
halves_full (suc m) l u e f h =
    let n = 2 ^ m in
    let k1 = take n l in
    let k2 = drop n l in
    let u1 = take n u in
    let u2 = drop n u in
    let a = transform m u1 in
    let b = transform m u2 in
    let l1 = length-first m l e in
    let la = length-transform m u1 (length-first m u f) in
    let lb = length-transform m u2 (length-second m u f) in
    let ba = bits_transform m u1 (bits_take n u h) in
    let bb = bits_transform m u2 (bits_drop n u h) in
    ap₂ ◌+◌ (halves_full m (lower_row n l) u1 (long_lower_row m l e) (length-first m u f) (bits_take n u h))
    (halves_full m (upper_row n l a) u2 (long_upper_row m l e a la) (length-second m u f) (bits_drop n u h))
    ∙ halves_penalty k1 k2 a b (l1 ∙ sym (length-second m l e)) (l1 ∙ sym la) (l1 ∙ sym lb) ba bb
    ∙ sym (penalty-append k1 k2 (xors a b) b (l1 ∙ sym (length-xors a b (la ∙ sym lb) ∙ la)))
    ∙ ap (λ (z : List ℤ). penalty z (xors a b ++ b)) (take-append-drop n l)

-- ---- a path's penalty
module _ (m : ℕ) (l : List ℤ) (e : length l ≡ 2 ^ m) where
  halves_added : (u w : List ℕ) → length u + length w ≤ 2 ^ m → by_halves m l (u ++ w) ≡ by_halves m l u + added_by m l u w
  unfolding added_by
  halves_added u [] h = rw (append-nil u) (sym (add-zero (by_halves m l u)))
  halves_added u (b ∷ w) h =
      rw (← (append_assoc u (b ∷ []) w))
      (halves_added (u ++ b ∷ []) w (rw (length_more u b) (omega arith)) ∙ omega (arith, halves_more m l u b e (omega arith)))

  -- a full path's penalty is its word's
  pub path_full : (u : List ℕ) → length u ≡ 2 ^ m → Bits u → path_penalty m l u ≡ penalty l (transform m u)
  path_full u f h = omega (arith, halves_added [] u (omega arith), halves_nil m l, halves_full m l u e f h)

  -- no row that begins with the path has less
  pub path_below : (u w : List ℕ) → length u + length w ≡ 2 ^ m → Bits u → Bits w → path_penalty m l u ≤ penalty l (transform m (u ++ w))
  path_below u w f h k = rw (← (path_full (u ++ w) (length-append u w ∙ f) (bits_append u w h k))) (path_rises m l u w)

  -- and the row that continues with them has exactly as much
  pub path_attained : (d : ℕ) (u : List ℕ) → length u + d ≡ 2 ^ m → Bits u → penalty l (transform m (u ++ onward m l d u)) ≡ path_penalty m l u
  path_attained d u f h =
      let w = onward m l d u in
      sym (path_full (u ++ w) (length-append u w ∙ rw (length-onward m l d u) f) (bits_append u w h (bits_onward m l d u)))
      ∙ added_append m l [] u w
      ∙ rw (added_onward m l d u) (add-zero (path_penalty m l u))

  pub path_sizes : (u : List ℕ) → length u ≤ 2 ^ m → Bits u → path_penalty m l u ≤ sizes l
  path_sizes u f h =
      let d = 2 ^ m - length u in
      rw (← (path_attained d u (omega arith) h)) (penalty-sizes l (transform m (u ++ onward m l d u)))
