-- `admit_for`: each return is what the tests that led there show.
use Rattle.std.specs.Prelude.{length}
use Rattle.std.proofs.Common.{rules, sym, ◌∙◌}
use Rattle.code.specs.Sound.{largest_reading}
use Rattle.code.specs.Entries.{first_bad_reading}
use Rattle.code.specs.AdmittedLaws.{refused_input, refused_bits, refused-word, refused-entry, allowed, entry_err, entry_ok}
use Rattle.code.proofs.admit_for.Goals as goal

pub returns-then-readings-n : goal.returns-then-readings-n
returns-then-readings-n c =
    let s = c.args in
    refused_input s.code s.expected s.readings.now s.bits s.word (λ e. c.if-readings-n.true (e ∙ sym c.length-n.ensures))

pub returns-then-bits-expected : goal.returns-then-bits-expected
returns-then-bits-expected c =
    let s = c.args in
    refused_bits s.code s.expected s.readings.now s.bits s.word (c.if-readings-n.false ∙ c.length-n.ensures) c.if-bits-expected.true

pub returns-then-word-n : goal.returns-then-word-n
returns-then-word-n c =
    let s = c.args in
    let n = c.length-n.ensures in
    refused-word s.code s.expected s.readings.now s.bits s.word (c.if-readings-n.false ∙ n) c.if-bits-expected.false
    (λ e. c.if-word-n.true (e ∙ sym n))

-- the first bad reading is that of the test
pub returns-in_err-test_readings : goal.returns-in_err-test_readings
returns-in_err-test_readings c =
    let s = c.args in
    let l = s.readings.now in
    let n = c.length-n.ensures in
    let bad = entry_err (first_bad_reading largest_reading l) (length l) (sym c.test_readings.ensures ∙ c.in_err-test_readings.was) in
    let e = refused-entry s.code s.expected l s.bits s.word (c.if-readings-n.false ∙ n) c.if-bits-expected.false (c.if-word-n.false ∙ n) bad.1 in
    let w = bad.0 in
    search rules

pub returns : goal.returns
returns c =
    let s = c.args in
    let l = s.readings.now in
    let n = c.length-n.ensures in
    let good = entry_ok (first_bad_reading largest_reading l) (length l) (sym c.test_readings.ensures ∙ c.in_ok-test_readings.was) in
    allowed s.code s.expected l s.bits s.word (c.if-readings-n.false ∙ n) c.if-bits-expected.false (c.if-word-n.false ∙ n) good
