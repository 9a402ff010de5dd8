-- `float_walk::first_bit` meets its contract.
use mathlib.Core.Path.{sym, ◌∙◌}
use Rattle.rows.specs.RowLaws.{hard-one, hard-zero}
use Rattle.float_numbers.specs.Whole.{whole_of}
use Rattle.float_numbers.proofs.WholeLaws.{whole_negative}
use Rattle.float_walk.proofs.first_bit.Goals as goal

pub returns-then-value : goal.returns-then-value
returns-then-value c = let s = c in hard-one (whole_of s.args.value) (sym (whole_negative s.args.value s.requires) ∙ c.if-value.true)

pub returns-else-value : goal.returns-else-value
returns-else-value c = let s = c in hard-zero (whole_of s.args.value) (sym (whole_negative s.args.value s.requires) ∙ c.if-value.false)
