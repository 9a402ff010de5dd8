-- Each return is the outcome after the tests.
use Rattle.std.specs.Prelude.{Ok}
use Rattle.std.proofs.Common.{rules}
use mathlib.Core.Path.{◌≡◌, sym, ◌∙◌}
use lib.ListN.{length}
use Rattle.code.specs.Admitted.{admitted}
use Rattle.code.specs.AdmittedLaws.{allowed_sound}
use Rattle.early.proofs.OutcomeLaws.{answering-refused, answering_sound}
use Rattle.early.proofs.early_within.Goals as goal
use Rattle.early.proofs.early_within.Goals.{In_ok-code}

is_allowed : (c : In_ok-code)
    → let s = c.args in
    Ok c.in_ok-code.code ≡ admitted s.r s.m s.readings.now (length s.bits.now) (length s.word.now)
is_allowed c = sym c.in_ok-code.was ∙ c.admit.ensures

pub answer_sound-requires : goal.answer_sound-requires
answer_sound-requires c =
    let allowed = (goal.at.answer_sound-requires c).In_ok-code in
    let s = allowed.args in
    allowed_sound s.r s.m s.readings.now (length s.bits.now) (length s.word.now) allowed.in_ok-code.code (is_allowed allowed)

pub returns-in_err-code : goal.returns-in_err-code
returns-in_err-code c =
    let s = c.args in
    let e = sym (answering-refused s.r s.m s.allowed s.readings.now s.bits.now s.word.now _ (sym c.in_err-code.was ∙ c.admit.ensures)) in
    search rules

pub returns : goal.returns
returns c =
    let allowed = (goal.at.returns c).In_ok-code in
    let s = allowed.args in
    let code = allowed.in_ok-code.code in
    c.answer_sound.ensures
    ∙ sym (answering_sound s.r s.m s.allowed s.readings.now s.bits.now s.word.now code (is_allowed allowed))
