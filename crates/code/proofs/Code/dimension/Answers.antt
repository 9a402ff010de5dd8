-- `Code::dimension`: the entry r of the row of m.
use borrow.Author.Rules.{rules}
use mathlib.Core.Path.{ap, ◌∙◌}
use mathlib.Core.List.{List}
use Prim.Native.Nat.{ℕ, ◌<◌}
use native.Mathlib.Omega.{arith}
use lib.ListN.{get_or}
use Rattle.numbers.specs.SumsLaws.{get_d_tabulate}
use Rattle.words.specs.Kinds.{dimension}
use Rattle.code.proofs.Code.dimension.Goals as goal

pub returns : goal.returns
returns c =
    let s = c.before.before in
    let r = s.args.self.r in
    let m = s.args.self.m in
    let small : r < 9 = omega (arith, s.requires.r_small, s.requires.m_small) in
    ap (λ (row : List ℕ). get_or row r 0) c.dimensions-row.ensures ∙ get_d_tabulate (λ k. dimension k m) 9 r 0 small
