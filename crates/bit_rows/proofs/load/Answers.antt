-- The library's number of eight bytes is `packed`.
use Rattle.std.proofs.Common.{◌∙◌, arith}
use Rattle.numbers.specs.Sums.{total}
use Rattle.bit_rows.specs.Eight.{packed}
use Rattle.bit_rows.proofs.load.Goals as goal

pub returns : goal.returns
unfolding packed total
returns c = c.from_le_bytes.ensures ∙ omega arith
