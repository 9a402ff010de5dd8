-- How deep the walk goes. Information steps that are open at the same time are at rising information indices, each inside the one before: `frozen_step` calls
-- `info_step` at its own index or a later one, and `info_step` calls `frozen_step` at the index after its own or, behind a block, at a later one. The number
-- of information indices still to choose falls with each such step, so at most k are open at the same time. The bounds on the stack (tools/stack) rest on this.
-- The crate walk says the same over the measure by which its steps are accepted (walk/specs/Depth.antt).
use Rattle.std.specs.Prelude.{List, [], ◌∷◌, ℕ, zero, suc, ◌≤◌, ◌<◌, length, get_or, drop}
use Rattle.std.proofs.Common.{arith}
use Rattle.numbers.specs.Sums.{sum}
use Rattle.words.specs.Kinds.{kinds, dimension}
use Rattle.words.proofs.KindLaws.{sum-kinds}

-- how many information indices are still to choose from index i on
abbrev pub to_choose : List ℕ → ℕ → ℕ
to_choose ks i = sum (drop i ks)

-- information steps at these indices, each inside the one before, the first at this index or a later one
abbrev pub Nested : List ℕ → ℕ → List ℕ → Type 0
Nested ks from [] = Unit {0}
Nested ks from (i ∷ steps) = (from ≤ i) × (i < length ks) × (0 < get_or ks i 0) × Nested ks (suc i) steps

pub record Depth : Type 0 where
  -- each information step leaves fewer, for any row of kinds
  pub falls : (ks : List ℕ) (i : ℕ) → i < length ks → 0 < get_or ks i 0 → to_choose ks (suc i) < to_choose ks i
  -- no step leaves more
  pub never_rises : (ks : List ℕ) (i j : ℕ) → i ≤ j → to_choose ks j ≤ to_choose ks i
  -- so no more steps are nested than there are information indices
  pub few : (ks : List ℕ) (from : ℕ) (steps : List ℕ) → Nested ks from steps → length steps ≤ to_choose ks from
  -- in the walk of RM(r,m): at most k
  pub most : (r m : ℕ) (steps : List ℕ) → Nested (kinds r m) 0 steps → length steps ≤ dimension r m

-- ---- proved
falls : (ks : List ℕ) (i : ℕ) → i < length ks → 0 < get_or ks i 0 → to_choose ks (suc i) < to_choose ks i
unfolding sum
falls [] i h k = absurd (omega arith)
falls (x ∷ ks) zero h k = omega arith
falls (x ∷ ks) (suc i) h k = falls ks i (omega arith) k

never_rises : (ks : List ℕ) (i j : ℕ) → i ≤ j → to_choose ks j ≤ to_choose ks i
unfolding sum
never_rises [] zero zero h = omega arith
never_rises [] zero (suc j) h = omega arith
never_rises [] (suc i) zero h = absurd (omega arith)
never_rises [] (suc i) (suc j) h = omega arith
never_rises (x ∷ ks) zero zero h = omega arith
never_rises (x ∷ ks) zero (suc j) h = omega (arith, never_rises ks 0 j (omega arith))
never_rises (x ∷ ks) (suc i) zero h = absurd (omega arith)
never_rises (x ∷ ks) (suc i) (suc j) h = never_rises ks i j (omega arith)

few : (ks : List ℕ) (from : ℕ) (steps : List ℕ) → Nested ks from steps → length steps ≤ to_choose ks from
few ks from [] n = omega arith
few ks from (i ∷ steps) n =
    omega (arith, few ks (suc i) steps n.3, falls ks i n.1 n.2, never_rises ks from i n.0)

pub depth : Depth
depth =
    record {
      falls = falls;
      never_rises = never_rises;
      few = few;
      most = λ r m steps n. omega (arith, few (kinds r m) 0 steps n, sum-kinds r m);
    }
