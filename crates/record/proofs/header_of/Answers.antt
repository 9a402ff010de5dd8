-- `record::header_of` meets its contract.
use mathlib.Core.Path.{ap}
use Rattle.record.specs.Reader.{outcome_of}
use Rattle.record.proofs.header_of.Goals as goal

pub returns : goal.returns
returns c = ap outcome_of c.frame.ensures
