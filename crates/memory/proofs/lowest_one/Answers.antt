-- `lowest_one`: the machine's count of trailing zeros.
use Rattle.std.proofs.Common.{arith}
use Rattle.numbers.specs.LowestLaws.{lowest_counted}
use Rattle.memory.proofs.lowest_one.Goals as goal

pub returns : goal.returns
returns c = lowest_counted 64 c.args.i c.requires (omega arith)
