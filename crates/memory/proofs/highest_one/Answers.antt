-- `highest_one`: the machine's logarithm, of a number that is not 0.
use Rattle.memory.specs.TopLaws.{some_bit, highest_by_power}
use Rattle.memory.proofs.highest_one.Goals as goal

pub ilog2-requires : goal.ilog2-requires
ilog2-requires c = some_bit c.args.x

pub returns : goal.returns
returns c = highest_by_power c.args.x c.ilog2.result c.ilog2.ensures.power_le c.ilog2.ensures.next_power_gt
