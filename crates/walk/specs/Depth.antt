-- How deep the walk goes, over the measure by which the checker accepts that its two steps call each other: a step may call the other only with a smaller
-- measure than its own (proofs/+frozen_step_info_step, here and in `float_walk`). So the measures of the steps that are open at the same time fall, and
-- they are in turn those of information steps and of frozen steps. The bounds on the stack (tools/stack) rest on this.
use Rattle.std.specs.Prelude.{◌≡◌, List, [], ◌∷◌, ℕ, ◌+◌, ◌*◌, ◌≤◌, ◌<◌, min, length, get_or, drop}
use Rattle.words.specs.Kinds.{kinds, dimension}

-- how many of these indices carry information
unfoldable pub to_choose : List ℕ → ℕ
to_choose [] = 0
to_choose (kind ∷ ks) = min kind 1 + to_choose ks

-- the measure of either step at index i: twice the information indices still to choose, and one more in the frozen step
abbrev pub frozen_measure : List ℕ → ℕ → ℕ
frozen_measure ks i = 2 * to_choose (drop i ks) + 1

abbrev pub information_measure : List ℕ → ℕ → ℕ
information_measure ks i = 2 * to_choose (drop i ks)

-- the measures of steps that are open at the same time inside a step of measure t, each called by the one before it
abbrev pub Falling : ℕ → List ℕ → Type 0
Falling t [] = Unit {0}
Falling t (u ∷ inner) = (0 < u) × (u < t) × Falling u inner

pub record Depth : Type 0 where
  -- an information step leaves fewer to choose to any later index, for any row of kinds
  pub information_falls : (ks : List ℕ) (i j : ℕ) → i < length ks → (get_or ks i 0 ≡ 0 → ⊥) → i < j → frozen_measure ks j < information_measure ks i
  -- a frozen step leaves no more, so that its information step has a smaller measure
  pub frozen_falls : (ks : List ℕ) (from i : ℕ) → from ≤ i → information_measure ks i < frozen_measure ks from
  -- no measure of either step is 0: at an information index one is still to choose
  pub positive : (ks : List ℕ) (i : ℕ) → i < length ks → (get_or ks i 0 ≡ 0 → ⊥) → 0 < information_measure ks i
  -- so fewer steps are open inside a step than its measure
  pub few : (t : ℕ) (inner : List ℕ) → 0 < t → Falling t inner → length inner < t
  -- in the walk of RM(r,m), inside its first step, at most 2k: k information steps, and a frozen step inside each
  pub most : (r m : ℕ) (inner : List ℕ) → Falling (frozen_measure (kinds r m) 0) inner → length inner ≤ 2 * dimension r m
