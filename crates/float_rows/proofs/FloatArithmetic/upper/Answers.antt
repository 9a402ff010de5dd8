-- Floats' `upper` meets its contract.
use mathlib.Core.Path.{◌∙◌}
use native.Mathlib.Omega.{arith}
use Rattle.rows.specs.RowLaws.{upper-one}
use Rattle.float_numbers.specs.Whole.{whole_of}
use Rattle.float_numbers.proofs.SumLaws.{whole_add, whole_sub}
use Rattle.float_rows.proofs.FloatArithmetic.upper.Goals as goal

pub returns-then-a-eq0 : goal.returns-then-a-eq0
returns-then-a-eq0 c =
    let s = c in
    rw c.if-a-eq0.true (whole_add s.args.y s.args.x (omega arith))

pub returns-else-a-eq0 : goal.returns-else-a-eq0
returns-else-a-eq0 c =
    let s = c in
    whole_sub s.args.y s.args.x (omega arith)
    ∙ upper-one (whole_of s.args.x) (whole_of s.args.y) s.args.a c.if-a-eq0.false
