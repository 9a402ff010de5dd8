-- `test_within`: there is a reading beyond the largest, and every reading passed is within it.
use Rattle.std.specs.Prelude.{pos, nat_abs, length}
use Rattle.std.proofs.Common.{sym, ◌∙◌, arith}
use Rattle.std.proofs.lemmas.Bool.{not-true}
use borrow.Author.Tests.{ltb-true, ltb-false}
use mir.Facts.{to_z-of_z}
use Rattle.numbers.specs.Parts.{up}
use Rattle.code.specs.Entries.{first_bad_reading}
use Rattle.code.specs.EntriesLaws.{first-here, first-none, good_more, none_above}
use Rattle.code.specs.AdmittedLaws.{entry_refused, entry_passed}
use Rattle.code.proofs.test_within.Goals as goal

pub some_beyond-requires : goal.some_beyond-requires
some_beyond-requires c = rw (to_z-of_z c.ranges.largest) c.requires

pub returns-then-not-some_beyond : goal.returns-then-not-some_beyond
returns-then-not-some_beyond c =
    let s = c.before.before in
    let l = s.args.readings.now in
    let found = rw (to_z-of_z s.ranges.largest) at c.some_beyond.ensures in
    let none = none_above nat_abs (up s.args.largest) l (sym found ∙ not-true _ c.if-not-some_beyond.true-raw) in
    entry_passed (first_bad_reading (up s.args.largest) l) (length l) (omega (arith, none))

pub loop-i-init : goal.loop-i-init
loop-i-init c = λ j h. absurd (omega arith)

pub beyond-requires : goal.beyond-requires
beyond-requires c = let s = c.before.before.before.before.before in rw (to_z-of_z s.ranges.largest) s.requires

pub returns-then-beyond : goal.returns-then-beyond
returns-then-beyond c =
    let s = c.before.before.before.before.before.before.before in
    let l = c.loop-i in
    let r = s.args.readings.now in
    let found = rw (to_z-of_z s.ranges.largest, to_z-of_z (record { sfits = c.beyond-arg-1.given }))
    at (sym c.beyond.ensures ∙ c.if-beyond.true) in
    let before = rw (to_z-of_z s.ranges.largest) at l.invariant in
    let first = first-here (pos 0) nat_abs (up s.args.largest) r l.i before (omega arith) (ltb-true _ _ found) in
    rw first (entry_refused (first_bad_reading (up s.args.largest) r) (length r) (omega (arith, first)))

pub loop-i-preserved : goal.loop-i-preserved
loop-i-preserved c =
    let s = c.before.before.before.before.before.before.before in
    let l = c.loop-i in
    let passed = rw (to_z-of_z s.ranges.largest, to_z-of_z (record { sfits = c.beyond-arg-1.given }))
    at (sym c.beyond.ensures ∙ c.if-beyond.false) in
    let before = rw (to_z-of_z s.ranges.largest) at l.invariant in
    rw (to_z-of_z s.ranges.largest) (good_more (pos 0) nat_abs (up s.args.largest) s.args.readings.now l.i before (ltb-false _ _ passed))

pub returns : goal.returns
returns c =
    let s = c.before.before.before.before in
    let l = c.loop-i in
    let r = s.args.readings.now in
    let none = first-none (pos 0) nat_abs (up s.args.largest) r l.i (rw (to_z-of_z s.ranges.largest) at l.invariant) (omega arith) in
    entry_passed (first_bad_reading (up s.args.largest) r) (length r) (omega (arith, none))
