-- `float_code::test_readings`: every float passed is a reading.
use lib.Ieee.{nan}
use Rattle.code.specs.EntriesLaws.{GoodBefore}
use Rattle.code.specs.Sound.{largest_reading}
use Rattle.float_code.specs.PlaceLaws.{size_of}
use Rattle.float_code.proofs.test_readings.Given as goal

abbrev pub invariant-loop-i : goal.invariant-loop-i
invariant-loop-i l = GoodBefore nan size_of largest_reading l.readings l.i
