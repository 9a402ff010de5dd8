-- Each return is the outcome after the tests.
use Rattle.std.specs.Prelude.{◌≡◌, length, Ok}
use Rattle.std.proofs.Common.{rules, sym, ◌∙◌}
use Rattle.code.specs.Admitted.{admitted}
use Rattle.code.specs.AdmittedLaws.{allowed_sound}
use Rattle.quick.specs.OutcomeLaws.{reading-refused, reading-done}
use Rattle.quick.proofs.quick.Goals as goal
use Rattle.quick.proofs.quick.Goals.{In_ok-code}

-- the code that the tests leave
is_allowed : (c : In_ok-code)
    → let s = c.args in
    Ok c.in_ok-code.code ≡ admitted s.r s.m s.readings.now (length s.bits.now) (length s.word.now)
is_allowed c = sym c.in_ok-code.was ∙ c.admit.ensures

pub returns-in_err-code : goal.returns-in_err-code
returns-in_err-code c =
    let s = c.args in
    let e = reading-refused s.r s.m s.readings.now s.bits.now s.word.now _ (sym c.in_err-code.was ∙ c.admit.ensures) in
    search rules

pub take_reading-requires : goal.take_reading-requires
take_reading-requires c =
    let s = c.args in
    allowed_sound s.r s.m s.readings.now (length s.bits.now) (length s.word.now) _ (is_allowed (goal.at.take_reading-requires c).In_ok-code)

pub returns : goal.returns
returns c =
    let s = c.args in
    reading-done s.r s.m s.readings.now s.bits.now s.word.now _ _ (is_allowed (goal.at.returns c).In_ok-code) c.take_reading.ensures
