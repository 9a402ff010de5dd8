-- All readings 0: every word has penalty 0, so the search is tied, with penalty 0; the walk makes n + k visits, since the last index of RM(r,m)
-- carries information: one path is followed to its end, its second extension there is held too, and every other second extension is dropped.
use Rattle.std.specs.Prelude.{◌≡◌, refl, true, length, replicate, ℤ, pos, negsuc, nat_abs}
use Rattle.std.proofs.Common.{ap, sym, subst, arith, le-leb}
use mathlib.Core.List.{List, [], ◌∷◌, ◌++◌}
use Prim.Native.Nat.{ℕ, zero, suc, ◌+◌, ◌^◌, ◌≤◌, ◌<◌}
use Rattle.numbers.specs.Sums.{sum}
use Rattle.words.specs.Bits.{Bits}
use Rattle.words.specs.Kinds.{kinds, dimension, encoded}
use Rattle.words.proofs.KindLaws.{length-kinds, bits_kinds, kinds-one, kinds-zero, kinds-suc, sum-kinds, sum_kinds_pos}
use Rattle.decoding.specs.Readings.{sizes, Within}
use Rattle.decoding.specs.Best.{least_penalty, gap, best_bits}
use Rattle.decoding.specs.Walk.{value, Held, none, one, two, dropped, walk, walked, needed}
use Rattle.decoding.specs.Answer.{tied, answer}
use Rattle.decoding.specs.StepLaws.{sizes_within, penalty-sizes}
use Rattle.decoding.specs.PathLaws.{value-sizes}
use Rattle.decoding.specs.BestLaws.{best_attains}
use Rattle.decoding.proofs.WalkLaws.{best_two}
use Rattle.decoding.specs.AnswerLaws.{answer_tied}
use Rattle.decoding.specs.ZeroLaws.{LastCarries}

last-append : (x y : List ℕ) → LastCarries y → LastCarries (x ++ y)
last-append [] y h = h
last-append (a ∷ []) [] h = absurd h
last-append (a ∷ []) (b ∷ y) h = h
last-append (a ∷ c ∷ x) y h = last-append (c ∷ x) y h

pub last-kinds : (r m : ℕ) → LastCarries (kinds r m)
last-kinds r zero = subst LastCarries (sym (kinds-one r)) refl
last-kinds zero (suc m) = subst LastCarries (sym (kinds-zero m)) (last-append (replicate (2 ^ m) 0) (kinds 0 m) (last-kinds 0 m))
last-kinds (suc r) (suc m) = subst LastCarries (sym (kinds-suc r m)) (last-append (kinds r m) (kinds (suc r) m) (last-kinds (suc r) m))

-- ---- the walk
-- two are held, of penalty 0, so whatever follows is dropped
abbrev BothFree : Held → Type 0
BothFree none = ⊥
BothFree (one a) = ⊥
BothFree (two a b) = (a.penalty ≡ 0) × (b.penalty ≡ 0)

free_drops : (h : Held) → BothFree h → dropped h 0 ≡ true
free_drops none f = absurd f
free_drops (one a) f = absurd f
free_drops (two a b) f = le-leb b.penalty 0 (omega arith)

no_size : (z : ℤ) → nat_abs z ≤ 0 → z ≡ pos 0
no_size (pos n) h = ap pos (omega arith)
no_size (negsuc n) h = absurd (omega arith)

module _ (m : ℕ) (l : List ℤ) (none-speaks : Within 0 l) where
  no_sizes : sizes l ≡ 0
  no_sizes = omega (arith, sizes_within 0 l none-speaks)

  value-zero : (u : List ℕ) → value m l u ≡ pos 0
  value-zero u = no_size (value m l u) (omega (arith, value-sizes m l u, no_sizes))

  walk-zero : (ks u : List ℕ) (n : ℕ) → Bits ks → LastCarries ks
      → let end = walk m l ks u 0 (record { held = none; visits = n }) in
      BothFree end.held × (end.visits ≡ n + (length ks + sum ks))
  unfolding walk sum
  walk-zero [] u n h last = absurd last
  walk-zero (zero ∷ []) u n h last = absurd (omega arith)
  walk-zero (suc zero ∷ []) u n h last = rw (value-zero u) ((refl, refl), omega arith)
  walk-zero (zero ∷ j ∷ ks) u n h last =
      let onward = walk-zero (j ∷ ks) (u ++ 0 ∷ []) (n + 1) (λ i. h (suc i)) last in
      rw (value-zero u) (onward.0, omega (arith, onward.1))
  walk-zero (suc zero ∷ j ∷ ks) u n h last =
      let first = walk-zero (j ∷ ks) (u ++ 0 ∷ []) (n + 1) (λ i. h (suc i)) last in
      let t = walk m l (j ∷ ks) (u ++ 0 ∷ []) 0 (record { held = none; visits = n + 1 }) in
      rw (value-zero u, free_drops t.held first.0) (first.0, omega (arith, first.1))
  walk-zero (suc (suc k) ∷ ks) u n h last = absurd (omega (arith, h 0))

  pub needed-zero : (ks : List ℕ) → Bits ks → LastCarries ks → needed m ks l ≡ length ks + sum ks
  unfolding walked
  needed-zero ks h last = omega (arith, (walk-zero ks [] 0 h last).1)

  -- ---- the answer
  pub answer-zero : (ks : List ℕ) → length l ≡ 2 ^ m → length ks ≡ 2 ^ m → Bits ks → 0 < sum ks → LastCarries ks → (allowed : ℕ)
      → length ks + sum ks ≤ allowed → answer m ks l allowed ≡ tied 0 (length ks + sum ks)
  answer-zero ks e f h information last allowed in_time =
      let visits = needed-zero ks h last in
      let r = best_two m ks l e f h information in
      let least-is : least_penalty m ks l ≡ 0 = omega (arith, best_attains m ks l, penalty-sizes l (encoded m ks (best_bits m ks l)), no_sizes) in
      let gap_is : gap m ks l ≡ 0 = omega (arith, r.second-has, penalty-sizes l (encoded m ks r.second), no_sizes) in
      rw (visits, least-is) at (answer_tied m ks l allowed (rw visits in_time) gap_is)

-- for RM(r,m)
pub answer_zero_code : (r m : ℕ) (l : List ℤ) → length l ≡ 2 ^ m → Within 0 l → (allowed : ℕ) → 2 ^ m + dimension r m ≤ allowed
    → answer m (kinds r m) l allowed ≡ tied 0 (2 ^ m + dimension r m)
answer_zero_code r m l e none-speaks allowed in_time =
    rw (length-kinds r m, sum-kinds r m) at
    (answer-zero m l none-speaks (kinds r m) e (length-kinds r m) (bits_kinds r m) (sum_kinds_pos r m) (last-kinds r m) allowed
    (rw (length-kinds r m, sum-kinds r m) in_time))
