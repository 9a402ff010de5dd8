-- `float_code::is_reading` meets its contract. The constants are floats by their bits.
use mathlib.Core.Path.{sym}
use native.Mathlib.Omega.{arith}
use lib.Ieee.{of_bits}
use Rattle.code.specs.Sound.{largest_reading}
use Rattle.float_numbers.proofs.NearLaws.{reading-low, reading_high, reading_inside}
use Rattle.float_code.proofs.is_reading.Goals as goal

pub returns-then-x : goal.returns-then-x
unfolding of_bits
returns-then-x c = sym (reading-low largest_reading (omega arith) c.args.x c.if-x.true)

pub returns-then-x-2 : goal.returns-then-x-2
unfolding of_bits
returns-then-x-2 c = sym (reading_high largest_reading (omega arith) c.args.x c.if-x-2.true)

pub returns : goal.returns
unfolding of_bits
returns c = reading_inside largest_reading (omega arith) c.args.x c.if-x.false c.if-x-2.false
