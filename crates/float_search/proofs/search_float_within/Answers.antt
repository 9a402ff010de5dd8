-- `float_search::search_float_within`: each return is the outcome after the tests.
use Rattle.std.specs.Prelude.{Ok}
use mathlib.Core.Path.{◌≡◌, ap, sym, ◌∙◌}
use lib.ListN.{length}
use Rattle.code.specs.Admitted.{admitted}
use Rattle.code.specs.AdmittedLaws.{allowed_sound}
use Rattle.search.specs.declared.WithRunnerUp.{WithRunnerUp}
use Rattle.search.specs.RunnerUp.{runner_up_outcome_of}
use Rattle.search.proofs.RunnerUpLaws.{runner_up-refused, runner_up_answered}
use Rattle.float_numbers.specs.Whole.{wholes}
use Rattle.float_search.proofs.search_float_within.Goals as goal
use Rattle.float_search.proofs.search_float_within.Goals.{In-Ok}

is-allowed : (c : In-Ok)
    → let s = c.args in
    Ok c.in-Ok.code ≡ admitted s.r s.m (wholes s.readings.now) (length s.bits.now) (length s.word.now)
is-allowed c = sym c.in-Ok.is ∙ c.admit.ensures

pub search_sound-requires : goal.search_sound-requires
search_sound-requires c =
    let allowed = (goal.at.search_sound-requires c).In-Ok in
    let s = allowed.args in
    allowed_sound s.r s.m (wholes s.readings.now) (length s.bits.now) (length s.word.now) allowed.in-Ok.code (is-allowed allowed)

pub returns-in-Err : goal.returns-in-Err
returns-in-Err c =
    let refused = c in
    let tests = refused in
    let s = tests.args in
    ap (λ (a : WithRunnerUp). runner_up_outcome_of a s.bits.now s.word.now) c.refused.ensures
    ∙ sym (runner_up-refused s.r s.m s.allowed (wholes s.readings.now) s.bits.now s.word.now c.in-Err.why
    (sym c.in-Err.is ∙ tests.admit.ensures))

pub returns-in-Ok : goal.returns-in-Ok
returns-in-Ok c =
    let done = c in
    let allowed = (goal.at.returns-in-Ok c).In-Ok in
    let s = allowed.args in
    done.search_sound.ensures
    ∙ sym (runner_up_answered s.r s.m s.allowed (wholes s.readings.now) s.bits.now s.word.now
    allowed.in-Ok.code (is-allowed allowed))
