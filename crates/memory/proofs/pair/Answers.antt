-- `pair`: the sum of both bits, and the second.
use Rattle.memory.proofs.LowLaws.{pair_is}
use Rattle.memory.proofs.pair.Goals as goal

pub returns : goal.returns
returns c = pair_is c.args.path.now c.args.e c.requires.1 c.requires.0
