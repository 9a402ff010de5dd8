-- `float_code::test_readings`: every float passed is a reading.
use Rattle.std.specs.Prelude.{length}
use Rattle.std.proofs.Common.{sym, ◌∙◌, arith}
use borrow.Author.Tests.{leb-false, not-true}
use lib.Ieee.{nan}
use Rattle.code.specs.Sound.{largest_reading}
use Rattle.code.specs.Entries.{first_bad_reading}
use Rattle.code.specs.EntriesLaws.{first-here, first-none}
use Rattle.code.specs.AdmittedLaws.{entry_refused, entry_passed}
use Rattle.float_numbers.specs.Whole.{wholes}
use Rattle.float_numbers.proofs.WholesLaws.{length-wholes}
use Rattle.float_code.specs.PlaceLaws.{size_of, first_whole}
use Rattle.float_code.proofs.test_readings.Goals as goal

pub returns-then-not-is_reading : goal.returns-then-not-is_reading
returns-then-not-is_reading c =
    let l = c.loop-i in
    let readings = c.args.readings.now in
    let first =
    first-here nan size_of largest_reading readings l.i l.invariant (omega arith)
    (leb-false _ _ (sym c.is_reading.ensures ∙ not-true _ c.if-not-is_reading.true-raw))
    ∙ first_whole largest_reading readings in
    rw first
    (entry_refused (first_bad_reading largest_reading (wholes readings)) (length (wholes readings)) (omega (arith, first, length-wholes readings)))

pub returns : goal.returns
returns c =
    let l = c.loop-i in
    let readings = c.args.readings.now in
    let none = first-none nan size_of largest_reading readings l.i l.invariant (omega arith) ∙ first_whole largest_reading readings in
    entry_passed (first_bad_reading largest_reading (wholes readings)) (length (wholes readings)) (omega (arith, none, length-wholes readings))
