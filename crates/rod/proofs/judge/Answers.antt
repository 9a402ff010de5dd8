-- `judge`: the marker, then the number of the other bits.
use Rattle.std.specs.Prelude.{◌-◌}
use Rattle.std.proofs.Common.{arith, length-take}
use Rattle.words.specs.TransformLaws.{bits_take}
use Rattle.rod.specs.OutcomeLaws.{judged_marked, judged-shown}
use Rattle.rod.proofs.judge.Goals as goal

pub returns-then-marker-ne0 : goal.returns-then-marker-ne0
returns-then-marker-ne0 c =
    let a = c.args in
    judged_marked a.m a.bits.now c.requires.1 a.penalty a.gap c.if-marker-ne0.true

pub number_of-position-requires : goal.number_of-position-requires
number_of-position-requires c = (bits_take (c.args.m - 0) c.args.bits.now c.requires.0, rw length-take (omega (arith, c.requires.2)))

pub returns : goal.returns
returns c =
    let a = c.args in
    judged-shown a.m a.bits.now c.requires.1 a.penalty a.gap c.if-marker-ne0.false c.number_of-position.result c.number_of-position.ensures
