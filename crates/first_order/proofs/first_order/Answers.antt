-- Each return is the outcome after the tests.
use Rattle.std.specs.Prelude.{◌≡◌, Ok}
use Rattle.std.proofs.Common.{rules}
use mathlib.Core.Path.{ap, sym, ◌∙◌, subst}
use lib.ListN.{length}
use Rattle.code.specs.declared.Code.{Code}
use Rattle.code.specs.SoundInput.{SoundReadings}
use Rattle.code.specs.Sound.{rm}
use Rattle.code.specs.Admitted.{admitted}
use Rattle.code.specs.AdmittedLaws.{allowed_sound}
use Rattle.first_order.specs.Outcome.{as_search}
use Rattle.first_order.specs.OutcomeLaws.{other_order, first-order, test_refused, allowed_code}
use Rattle.first_order.proofs.first_order.Goals as goal
use Rattle.first_order.proofs.first_order.Goals.{In_ok-code}

pub returns-then-r-ne1 : goal.returns-then-r-ne1
returns-then-r-ne1 c =
    let a = c.args in
    other_order a.r a.m a.readings.now a.bits.now a.word.now c.if-r-ne1.true

-- the code that the tests leave
is_allowed : (c : In_ok-code)
    → let a = c.args in
    Ok c.in_ok-code.code ≡ admitted 1 a.m a.readings.now (length a.bits.now) (length a.word.now)
is_allowed c = sym c.in_ok-code.was ∙ c.admit.ensures

pub decode-requires : goal.decode-requires
decode-requires c =
    let a = c.args in
    let l = a.readings.now in
    let k = length a.bits.now in
    let n = length a.word.now in
    let is = is_allowed (goal.at.decode-requires c).In_ok-code in
    let same = allowed_code 1 a.m l k n c.in_ok-code.code is in
    subst (λ (d : Code). SoundReadings (rm 1 d.m) l k n) (sym same)
    (subst (λ (d : Code). SoundReadings d l k n) same (allowed_sound 1 a.m l k n c.in_ok-code.code is))

pub returns-in_err-code : goal.returns-in_err-code
returns-in_err-code c =
    let a = c.args in
    let l = a.readings.now in
    let e =
    test_refused a.r a.m l a.bits.now a.word.now _ (sym c.in_err-code.was ∙ c.admit.ensures)
    ∙ first-order a.r a.m l a.bits.now a.word.now c.if-r-ne1.false in
    search rules

pub returns : goal.returns
returns c =
    let a = c.args in
    let l = a.readings.now in
    let is = is_allowed (goal.at.returns c).In_ok-code in
    let same = allowed_code 1 a.m l (length a.bits.now) (length a.word.now) c.in_ok-code.code is in
    c.decode.ensures
    ∙ ap (λ (d : Code). as_search d.m l a.bits.now a.word.now) same
    ∙ first-order a.r a.m l a.bits.now a.word.now c.if-r-ne1.false
