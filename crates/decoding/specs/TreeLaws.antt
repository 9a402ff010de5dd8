-- The whole tree index by index, and that the walk's visits never exceed it.
use Rattle.std.specs.Prelude.{◌≡◌, length, take, ℤ}
use Rattle.std.proofs.Common.{ap, ◌∙◌}
use mathlib.Core.List.{List, [], ◌∷◌, ◌++◌}
use Prim.Native.Nat.{ℕ, zero, suc, ◌+◌, ◌-◌, ◌*◌, ◌^◌, ◌≤◌}
use native.Mathlib.Omega.{arith}
use Rattle.std.proofs.Math.Nat.{two-pow-succ}
use Rattle.numbers.specs.Choice.{cond_by}
use Rattle.numbers.specs.Sums.{total, sum}
use Rattle.numbers.specs.SumsLaws.{total_same, total-add}
use Rattle.words.specs.Bits.{Bits}
use Rattle.decoding.specs.Readings.{loss}
use Rattle.decoding.specs.Quick.{hard}
use Rattle.decoding.specs.Walk.{value, State, start, dropped, visited, extend, walk, walked, needed, tree}

-- ---- the tree below an index: one extension with what is below it, or two
pub tree_frozen : (ks : List ℕ) → tree (0 ∷ ks) ≡ 1 + tree ks
unfolding tree total sum
tree_frozen ks = ap (λ (n : ℕ). 1 + n) (total_same _ (λ i. 2 ^ sum (take (suc i) ks)) (length ks) (λ i h. ap (λ (n : ℕ). 2 ^ n) (omega arith)))

pub tree_information : (ks : List ℕ) → tree (1 ∷ ks) ≡ 2 * (1 + tree ks)
unfolding tree total sum
tree_information ks =
    let f : ℕ → ℕ = λ i. 2 ^ sum (take (suc i) ks) in
    let twice : total (λ i. 2 ^ (1 + sum (take (suc i) ks))) (length ks) ≡ total f (length ks) + total f (length ks) =
    total_same _ (λ i. f i + f i) (length ks) (λ i h. ap (λ (n : ℕ). 2 ^ n) (omega arith) ∙ two-pow-succ (sum (take (suc i) ks))) ∙ total-add f f (length ks) in
    omega (arith, twice)

-- ---- visits
extend_most : (onward : List ℕ → ℕ → State → State) (v : ℤ) (u : List ℕ) (p b k : ℕ) (s : State)
    → (onward (u ++ b ∷ []) (p + loss v b) (visited s)).visits ≤ (visited s).visits + k → (extend onward v u p b s).visits ≤ s.visits + (1 + k)
extend_most onward v u p b k s h =
    cond_by (λ (r : State). r.visits ≤ s.visits + (1 + k)) (dropped s.held (p + loss v b)) (visited s) (onward (u ++ b ∷ []) (p + loss v b) (visited s))
    (λ e. omega arith) (λ e. omega arith)

module _ (m : ℕ) (l : List ℤ) where
  pub walk_most : (ks u : List ℕ) (p : ℕ) (s : State) → Bits ks → (walk m l ks u p s).visits ≤ s.visits + tree ks
  unfolding walk tree total
  walk_most [] u p s h = omega arith
  walk_most (zero ∷ ks) u p s h =
      let v = value m l u in
      rw (tree_frozen ks) (extend_most (walk m l ks) v u p 0 (tree ks) s (walk_most ks (u ++ 0 ∷ []) (p + loss v 0) (visited s) (λ i. h (suc i))))
  walk_most (suc zero ∷ ks) u p s h =
      let v = value m l u in
      let go : (b : ℕ) (t : State) → (extend (walk m l ks) v u p b t).visits ≤ t.visits + (1 + tree ks) = λ b t.
      extend_most (walk m l ks) v u p b (tree ks) t (walk_most ks (u ++ b ∷ []) (p + loss v b) (visited t) (λ i. h (suc i))) in
      omega (arith, go (hard v) s, go (1 - hard v) (extend (walk m l ks) v u p (hard v) s), tree_information ks)
  walk_most (suc (suc k) ∷ ks) u p s h = absurd (omega (arith, h 0))

-- the walk never needs more than the whole tree
pub needed_most : (m : ℕ) (ks : List ℕ) (l : List ℤ) → Bits ks → needed m ks l ≤ tree ks
unfolding walked
needed_most m ks l h = omega (arith, walk_most m l ks [] 0 start h)
