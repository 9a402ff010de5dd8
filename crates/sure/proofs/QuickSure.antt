-- The quick reading finds the word of a row u if the sum shows it: by halves, with M doubled at each upper step.
-- As in HalfLaws, d = r + 1 names the code, so that r = 0, whose lower half holds only the zero row, is not a separate case.
use Rattle.std.specs.Prelude.{◌≡◌, refl, List, [], ◌∷◌, ℕ, zero, suc, ◌+◌, ◌-◌, ◌*◌, ◌^◌, ◌≤◌, ◌<◌, length, get_or, take, drop, ℤ, pos, negsuc, nat_abs}
use Rattle.std.proofs.Common.{ap, sym, ◌∙◌, ⊎_elim, arith, suc-ne-zero, length-take, get_or-take, get_or-drop}
use Rattle.std.proofs.Math.Nat.{two-pow-succ}
use Rattle.std.proofs.Math.ListN.{get_or-eq_default}
use Rattle.numbers.specs.Choice.{lt_or_le}
use Rattle.numbers.specs.Halves.{length-first, length-second}
use Rattle.words.specs.Bits.{Bits, ones}
use Rattle.words.specs.Word.{transform}
use Rattle.words.specs.Kinds.{Frozen}
use Rattle.words.specs.BitLaws.{ones-first, ones-second, ones_most}
use Rattle.words.specs.TransformLaws.{bits_take, bits_drop, length-transform, bits_transform}
use Rattle.decoding.specs.Readings.{loss, penalty, sizes, Within}
use Rattle.decoding.specs.Quick.{lower_row, upper_row, decide, quick_word}
use Rattle.decoding.specs.StepLaws.{long_lower_row, long_upper_row}
use Rattle.sure.specs.MarginLaws.{Clear}
use Rattle.sure.proofs.MarginLaws.{clear_lower, clear_upper, within_lower, within_upper}
use Rattle.sure.specs.QuickSure.{FrozenBelow}

-- ---- halves
module _ (d m : ℕ) (ks : List ℕ) (h : FrozenBelow d (suc m) ks) where
  frozen_first : FrozenBelow (d - 1) m (take (2 ^ m) ks)
  frozen_first i k o =
      get_or-take (2 ^ m) ks i 0 k ∙ h i (omega (arith, two-pow-succ m)) (omega (arith, ones-first m i k, ones_most m i))

  frozen_second : FrozenBelow d m (drop (2 ^ m) ks)
  frozen_second i k o =
      get_or-drop (2 ^ m) ks i 0 ∙ h (2 ^ m + i) (omega (arith, two-pow-succ m)) (omega (arith, ones-second m i k))

frozen_take : (n : ℕ) (ks u : List ℕ) → Frozen ks u → Frozen (take n ks) (take n u)
frozen_take n ks u f i z =
    ⊎_elim
    (λ k. get_or-take n u i 0 k ∙ f i (sym (get_or-take n ks i 0 k) ∙ z))
    (λ (k : n ≤ i). get_or-eq_default (take n u) 0 {n = i} (simp length-take (omega arith)))
    (lt_or_le i n)

frozen_drop : (n : ℕ) (ks u : List ℕ) → Frozen ks u → Frozen (drop n ks) (drop n u)
frozen_drop n ks u f i z = get_or-drop n u i 0 ∙ f (n + i) (sym (get_or-drop n ks i 0) ∙ z)

power_halved : (n d : ℕ) → 2 ^ (suc n - d) ≤ 2 * 2 ^ (n - d)
power_halved n d =
    ⊎_elim
    (λ (k : n < d).
    let above : suc n - d ≡ 0 = omega arith in
    let below : n - d ≡ 0 = omega arith in
    rw (above, below) (omega arith))
    (λ (k : d ≤ n).
    let next : suc n - d ≡ suc (n - d) = omega arith in
    rw next (omega (arith, two-pow-succ (n - d))))
    (lt_or_le n d)

-- ---- at one position the reading speaks for the bit
decide_right : (k b : ℕ) (x : ℤ) → b < 2 → (k ≡ 0 → b ≡ 0) → (1 ≤ k → 2 * loss x b < nat_abs x) → decide k x ≡ b
decide_right zero b x h z c = sym (z refl)
decide_right (suc k) zero (pos n) h z c = refl
decide_right (suc k) zero (negsuc n) h z c = absurd (omega (arith, c (omega arith)))
decide_right (suc k) (suc zero) (pos n) h z c = absurd (omega (arith, c (omega arith)))
decide_right (suc k) (suc zero) (negsuc n) h z c = refl
decide_right (suc k) (suc (suc b)) x h z c = absurd (omega arith)

quick_one : (d M : ℕ) (ks u : List ℕ) (l : List ℤ) → length l ≡ 1 → length u ≡ 1 → Bits u → FrozenBelow d 0 ks → Frozen ks u
    → (1 ≤ d → Clear M (2 ^ (1 - d)) l u) → decide (get_or ks 0 0) (get_or l 0 (pos 0)) ∷ [] ≡ u
unfolding penalty sizes ones
quick_one d M ks [] l e f h k z c = absurd (suc-ne-zero 0 (sym f))
quick_one d M ks (b ∷ a ∷ u) l e f h k z c = absurd (omega arith)
quick_one d M ks (b ∷ []) [] e f h k z c = absurd (suc-ne-zero 0 (sym e))
quick_one d M ks (b ∷ []) (x ∷ y ∷ l) e f h k z c = absurd (omega arith)
quick_one zero M ks (b ∷ []) (x ∷ []) e f h k z c =
    ap (λ (a : ℕ). a ∷ []) (decide_right (get_or ks 0 0) b x (h 0) (z 0) (λ i. absurd (omega (arith, k 0 (omega arith) (omega arith)))))
quick_one (suc r) M ks (b ∷ []) (x ∷ []) e f h k z c =
    let one : 1 - suc r ≡ 0 = omega arith in
    ap (λ (a : ℕ). a ∷ []) (decide_right (get_or ks 0 0) b x (h 0) (z 0) (λ i. omega (arith, rw one at (c (omega arith)))))

-- ---- all positions
pub quick_right : (d m M : ℕ) (ks u : List ℕ) (l : List ℤ) → length l ≡ 2 ^ m → length u ≡ 2 ^ m → Bits u → Within M l → FrozenBelow d m ks → Frozen ks u
    → (1 ≤ d → Clear M (2 ^ (suc m - d)) l (transform m u)) → quick_word m ks l ≡ transform m u
unfolding quick_word transform
quick_right d zero M ks u l e f h w k z c = quick_one d M ks u l e f h k z c
quick_right d (suc m) M ks u l e f h w k z c =
    let n = 2 ^ m in
    let u1 = take n u in
    let u2 = drop n u in
    let a = transform m u1 in
    let b = transform m u2 in
    let long = e ∙ two-pow-succ m in
    let long_a = length-transform m u1 (length-first m u f) in
    let long_b = length-transform m u2 (length-second m u f) in
    let bits_a = bits_transform m u1 (bits_take n u h) in
    let bits_b = bits_transform m u2 (bits_drop n u h) in
    let lower_word_lem : quick_word m (take n ks) (lower_row n l) ≡ a =
    quick_right (d - 1) m M (take n ks) u1 (lower_row n l) (long_lower_row m l e) (length-first m u f) (bits_take n u h) (within_lower M n l w)
    (frozen_first d m ks k) (frozen_take n ks u z)
    (λ j.
    let same : suc (suc m) - d ≡ suc m - (d - 1) = omega arith in
    clear_lower n l a b long long_a long_b bits_a bits_b M (2 ^ (suc m - (d - 1))) w (rw same at (c (omega arith)))) in
    let upper_word_lem : quick_word m (drop n ks) (upper_row n l a) ≡ b =
    quick_right d m (2 * M) (drop n ks) u2 (upper_row n l a) (long_upper_row m l e a long_a) (length-second m u f) (bits_drop n u h) (within_upper M n l a w)
    (frozen_second d m ks k) (frozen_drop n ks u z)
    (λ j.
    clear_upper n l a b long long_a long_b bits_a bits_b M (2 ^ (suc (suc m) - d)) (2 ^ (suc m - d)) (power_halved (suc m) d) (c j)) in
    rw (lower_word_lem, upper_word_lem)
