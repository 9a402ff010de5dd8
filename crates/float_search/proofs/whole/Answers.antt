-- `float_search::whole`: the cast of a penalty is defined, and gives its count.
use Rattle.float_walk.specs.PenaltyLaws.{penalty_cast}
use Rattle.float_search.proofs.whole.Goals as goal

pub float_to_int-result : goal.float_to_int-result
float_to_int-result c = (penalty_cast c.requires).0

pub returns : goal.returns
returns c = (penalty_cast c.requires).1
