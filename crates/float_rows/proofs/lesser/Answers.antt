-- `float_rows::lesser` meets its contract.
use mathlib.Core.Path.{sym, ◌∙◌}
use Rattle.rows.specs.OrderLaws.{lesser-first, lesser-second}
use Rattle.float_numbers.specs.Whole.{whole_of}
use Rattle.float_numbers.proofs.WholeLaws.{whole_lt}
use Rattle.float_rows.proofs.lesser.Goals as goal

pub returns-then-x-y : goal.returns-then-x-y
returns-then-x-y c =
    let s = c in
    lesser-first (whole_of s.args.x) (whole_of s.args.y) (sym (whole_lt s.args.x s.args.y s.requires.0 s.requires.1) ∙ c.if-x-y.true)

pub returns-else-x-y : goal.returns-else-x-y
returns-else-x-y c =
    let s = c in
    lesser-second (whole_of s.args.x) (whole_of s.args.y) (sym (whole_lt s.args.x s.args.y s.requires.0 s.requires.1) ∙ c.if-x-y.false)
