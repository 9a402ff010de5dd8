-- `telegram_of`: each field is the number of its part of the bits.
use Rattle.std.specs.Prelude.{drop}
use Rattle.std.proofs.Common.{arith, length-take}
use Rattle.words.specs.TransformLaws.{bits_take, bits_drop}
use Rattle.telegram.proofs.telegram_of.Goals as goal

pub number_of-cylinder-requires : goal.number_of-cylinder-requires
number_of-cylinder-requires c = (bits_take 3 c.args.bits.now c.requires.0, rw length-take (omega arith))

pub number_of-direction-requires : goal.number_of-direction-requires
number_of-direction-requires c =
    let b = c.args.bits.now in
    (bits_take 1 (drop 3 b) (bits_drop 3 b c.requires.0), rw length-take (omega arith))

pub number_of-tilt-requires : goal.number_of-tilt-requires
number_of-tilt-requires c =
    let b = c.args.bits.now in
    (bits_take 11 (drop 4 b) (bits_drop 4 b c.requires.0), rw length-take (omega arith))
