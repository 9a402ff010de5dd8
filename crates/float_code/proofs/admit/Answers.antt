-- `float_code::admit`: each return is what the tests that led there show.
use Rattle.std.specs.Prelude.{◌≡◌, length, Ok}
use Rattle.std.proofs.Common.{rules, sym, ◌∙◌}
use Rattle.code.specs.Sound.{made, largest_reading}
use Rattle.code.specs.SoundLaws.{made_of}
use Rattle.code.specs.SoundInput.{dimension_of}
use Rattle.code.specs.Entries.{first_bad_reading}
use Rattle.code.specs.AdmittedLaws.{refused_input, refused_bits, refused-word, refused-entry, allowed, refused_parameters, tested-made}
use Rattle.code.specs.AdmittedLaws.{entry_err, entry_ok}
use Rattle.float_numbers.specs.Whole.{wholes}
use Rattle.float_numbers.proofs.WholesLaws.{length-wholes}
use Rattle.float_code.proofs.admit.Goals as goal
use Rattle.float_code.proofs.admit.Goals.{In_ok-code}

pub returns-in_err-code : goal.returns-in_err-code
returns-in_err-code c =
    let s = c.args in
    let e = refused_parameters dimension_of s.r s.m (wholes s.readings.now) s.bits s.word (sym c.new.ensures ∙ c.in_err-code.was) in
    search rules

-- the code that was made
is_made : (c : In_ok-code) → made c.args.r c.args.m ≡ Ok c.in_ok-code.code
is_made c = sym c.new.ensures ∙ c.in_ok-code.was

pub length-n-requires : goal.length-n-requires
length-n-requires c = (made_of _ _ _ (is_made c)).sound

pub returns-then-readings-n : goal.returns-then-readings-n
returns-then-readings-n c =
    let s = c.args in
    let l = wholes s.readings.now in
    let code = c.in_ok-code.code in
    refused_input code (dimension_of code) l s.bits s.word
    (λ e. c.if-readings-n.true (sym (length-wholes s.readings.now) ∙ e ∙ sym c.length-n.ensures))
    ∙ tested-made dimension_of s.r s.m l s.bits s.word code (is_made (goal.at.returns-then-readings-n c).In_ok-code)

pub dimension-requires : goal.dimension-requires
dimension-requires c = (made_of _ _ _ (is_made ((goal.at.dimension-requires c).In_ok-code))).sound

pub returns-then-bits-dimension : goal.returns-then-bits-dimension
returns-then-bits-dimension c =
    let s = c.args in
    let l = wholes s.readings.now in
    let code = c.in_ok-code.code in
    refused_bits code (dimension_of code) l s.bits s.word
    (length-wholes s.readings.now ∙ c.if-readings-n.false ∙ c.length-n.ensures)
    (λ e. c.if-bits-dimension.true (e ∙ sym c.dimension.ensures))
    ∙ tested-made dimension_of s.r s.m l s.bits s.word code (is_made (goal.at.returns-then-bits-dimension c).In_ok-code)

pub returns-then-word-n : goal.returns-then-word-n
returns-then-word-n c =
    let s = c.args in
    let l = wholes s.readings.now in
    let code = c.in_ok-code.code in
    let n = c.length-n.ensures in
    refused-word code (dimension_of code) l s.bits s.word (length-wholes s.readings.now ∙ c.if-readings-n.false ∙ n)
    (c.if-bits-dimension.false ∙ c.dimension.ensures) (λ e. c.if-word-n.true (e ∙ sym n))
    ∙ tested-made dimension_of s.r s.m l s.bits s.word code (is_made (goal.at.returns-then-word-n c).In_ok-code)

-- the first bad reading is that of the test
pub returns-in_err-test_readings : goal.returns-in_err-test_readings
returns-in_err-test_readings c =
    let s = c.args in
    let l = wholes s.readings.now in
    let code = c.in_ok-code.code in
    let n = c.length-n.ensures in
    let bad = entry_err (first_bad_reading largest_reading l) (length l) (sym c.test_readings.ensures ∙ c.in_err-test_readings.was) in
    let e =
    refused-entry code (dimension_of code) l s.bits s.word (length-wholes s.readings.now ∙ c.if-readings-n.false ∙ n)
    (c.if-bits-dimension.false ∙ c.dimension.ensures) (c.if-word-n.false ∙ n) bad.1
    ∙ tested-made dimension_of s.r s.m l s.bits s.word code (is_made (goal.at.returns-in_err-test_readings c).In_ok-code) in
    let w = bad.0 in
    search rules

pub returns : goal.returns
returns c =
    let s = c.args in
    let l = wholes s.readings.now in
    let code = c.in_ok-code.code in
    let n = c.length-n.ensures in
    let good = entry_ok (first_bad_reading largest_reading l) (length l) (sym c.test_readings.ensures ∙ c.in_ok-test_readings.was) in
    allowed code (dimension_of code) l s.bits s.word (length-wholes s.readings.now ∙ c.if-readings-n.false ∙ n)
    (c.if-bits-dimension.false ∙ c.dimension.ensures) (c.if-word-n.false ∙ n) good
    ∙ tested-made dimension_of s.r s.m l s.bits s.word code (is_made (goal.at.returns c).In_ok-code)
