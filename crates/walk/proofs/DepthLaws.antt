-- Laws of the measures of the walk's two steps, which a must-fail edit turns (specs/Depth.antt): how they fall, and that the walk goes no deeper than
-- they say.
use Rattle.std.specs.Prelude.{◌≡◌, refl, List, [], ◌∷◌, ℕ, zero, suc, ◌≤◌, ◌<◌, length, get_or, take, drop}
use Rattle.std.proofs.Common.{sym, ◌∙◌, subst, arith, get_or-take}
use Rattle.numbers.specs.Sums.{sum}
use Rattle.words.specs.Kinds.{kinds}
use Rattle.words.proofs.KindLaws.{sum-kinds}
use Rattle.walk.specs.Depth.{to_choose, frozen_measure, information_measure, Falling, Depth}

falls : (ks : List ℕ) (i : ℕ) → i < length ks → (get_or ks i 0 ≡ 0 → ⊥) → to_choose (drop (suc i) ks) < to_choose (drop i ks)
unfolding to_choose
falls [] i h k = absurd (omega arith)
falls (zero ∷ ks) zero h k = absurd (k refl)
falls (suc x ∷ ks) zero h k = omega arith
falls (x ∷ ks) (suc i) h k = falls ks i (omega arith) k

never_rises : (ks : List ℕ) (i j : ℕ) → i ≤ j → to_choose (drop j ks) ≤ to_choose (drop i ks)
unfolding to_choose
never_rises [] zero zero h = omega arith
never_rises [] zero (suc j) h = omega arith
never_rises [] (suc i) zero h = absurd (omega arith)
never_rises [] (suc i) (suc j) h = omega arith
never_rises (x ∷ ks) zero zero h = omega arith
never_rises (x ∷ ks) zero (suc j) h = omega (arith, never_rises ks 0 j (omega arith))
never_rises (x ∷ ks) (suc i) zero h = absurd (omega arith)
never_rises (x ∷ ks) (suc i) (suc j) h = never_rises ks i j (omega arith)

information_falls : (ks : List ℕ) (i j : ℕ) → i < length ks → (get_or ks i 0 ≡ 0 → ⊥) → i < j → frozen_measure ks j < information_measure ks i
information_falls ks i j h k later = omega (arith, falls ks i h k, never_rises ks (suc i) j later)

frozen_falls : (ks : List ℕ) (from i : ℕ) → from ≤ i → information_measure ks i < frozen_measure ks from
frozen_falls ks from i on = omega (arith, never_rises ks from i on)

few : (t : ℕ) (inner : List ℕ) → 0 < t → Falling t inner → length inner < t
few t [] h f = h
few t (u ∷ inner) h f = omega (arith, few u inner f.0 f.2, f.1)

at_most-sum : (ks : List ℕ) → to_choose ks ≤ sum ks
unfolding to_choose sum
at_most-sum [] = omega arith
at_most-sum (x ∷ ks) = omega (arith, at_most-sum ks)

pub depth : Depth
depth =
    record {
      information_falls = information_falls;
      frozen_falls = frozen_falls;
      positive = λ ks i h k. omega (arith, falls ks i h k);
      few = few;
      most = λ r m inner f. omega (arith, few _ inner (omega arith) f, at_most-sum (kinds r m), sum-kinds r m);
    }

-- ---- as the two steps call each other: the kinds are the first n of an array, as many in the call as in the caller
module _ (k₀ : List ℕ) {n n' : ℕ} (same : n' ≡ n) where
  pub information_call : (i j : ℕ) → length (take n k₀) ≡ n → i < n → (get_or k₀ i 0 ≡ 0 → ⊥) → i < j
      → frozen_measure (take n' k₀) j < information_measure (take n k₀) i
  information_call i j long inside kind later =
      subst (λ (x : ℕ). frozen_measure (take x k₀) j < information_measure (take n k₀) i) (sym same)
      (information_falls (take n k₀) i j (omega (arith, long)) (λ e. kind (sym (get_or-take n k₀ i 0 inside) ∙ e)) later)

  pub frozen_call : (from i : ℕ) → from ≤ i → information_measure (take n' k₀) i < frozen_measure (take n k₀) from
  frozen_call from i on =
      subst (λ (x : ℕ). information_measure (take x k₀) i < frozen_measure (take n k₀) from) (sym same) (frozen_falls (take n k₀) from i on)
