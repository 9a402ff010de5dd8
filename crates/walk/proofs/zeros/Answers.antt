-- `zeros`: what is added is small.
use Rattle.std.proofs.Common.{arith}
use Rattle.rows.specs.Rows.{row_of}
use Rattle.blocks.specs.FrozenLaws.{adds_size}
use Rattle.walk.proofs.zeros.Goals as goal

pub overflow_add-penalty : goal.overflow_add-penalty
overflow_add-penalty c =
    record { fits = omega (arith, c.added-adds.ensures, adds_size c.run-n.result (row_of 16 c.args.rows.now), c.requires.block.small, c.requires.low) }
