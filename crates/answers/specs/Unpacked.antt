-- What C sees of unpacking: the number returned, the numbers, and the readings.
use Rattle.std.specs.Prelude.{List, ℤ}
use Rattle.packing.specs.Unpacking.{UnpackedOutcome}
use Rattle.answers.specs.Reported.{Report, reported, numbers}

abbrev pub shown_unpacked : UnpackedOutcome → Report (List ℤ)
shown_unpacked o = reported o.carry.number (numbers 0 0 0 o.carry.place) o.readings
