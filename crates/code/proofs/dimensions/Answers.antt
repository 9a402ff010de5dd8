-- The rows of dimensions: each is one computed equation with the sums of binomials.
use mathlib.Core.Path.{◌≡◌, ap}
use Prim.Native.Nat.{ℕ, suc, ◌≤◌, zero-le}
use native.Mathlib.Omega.{arith}
use native.Mathlib.Nat.{le_antisymm}
use Rattle.numbers.specs.Sums.{total, tabulate}
use Rattle.words.specs.Kinds.{choose, dimension}
use Rattle.code.proofs.dimensions.Goals as goal

same_row : (k m : ℕ) → k ≡ m → tabulate (λ r. dimension r k) 9 ≡ tabulate (λ r. dimension r m) 9
same_row k m e = ap (λ (n : ℕ). tabulate (λ r. dimension r n) 9) e

-- m is none of the numbers up to k
past : (k m : ℕ) → k ≤ m → (m ≡ k → ⊥) → suc k ≤ m
past k m h n = omega arith

pub returns-in-0 : goal.returns-in-0
unfolding total tabulate choose dimension
returns-in-0 c = same_row 0 c.args.m (omega arith)

pub returns-in-1 : goal.returns-in-1
unfolding total tabulate choose dimension
returns-in-1 c = same_row 1 c.args.m (omega arith)

pub returns-in-2 : goal.returns-in-2
unfolding total tabulate choose dimension
returns-in-2 c = same_row 2 c.args.m (omega arith)

pub returns-in-3 : goal.returns-in-3
unfolding total tabulate choose dimension
returns-in-3 c = same_row 3 c.args.m (omega arith)

pub returns-in-4 : goal.returns-in-4
unfolding total tabulate choose dimension
returns-in-4 c = same_row 4 c.args.m (omega arith)

pub returns-in-5 : goal.returns-in-5
unfolding total tabulate choose dimension
returns-in-5 c = same_row 5 c.args.m (omega arith)

pub returns-in-6 : goal.returns-in-6
unfolding total tabulate choose dimension
returns-in-6 c = same_row 6 c.args.m (omega arith)

pub returns-in-7 : goal.returns-in-7
unfolding total tabulate choose dimension
returns-in-7 c = same_row 7 c.args.m (omega arith)

pub returns-in_default : goal.returns-in_default
unfolding total tabulate choose dimension
returns-in_default c =
    let m = c.args.m in
    let n1 = c.in_default.in_default-own.rest in
    let n2 = n1.0 in
    let n3 = n2.0 in
    let n4 = n3.0 in
    let n5 = n4.0 in
    let n6 = n5.0 in
    let n7 = n6.0 in
    let four = past 3 m (past 2 m (past 1 m (past 0 m zero-le n7.0.1) n7.1) n6.1) n5.1 in
    let eight = past 7 m (past 6 m (past 5 m (past 4 m four n4.1) n3.1) n2.1) n1.1 in
    same_row 8 m (le_antisymm eight c.requires)
