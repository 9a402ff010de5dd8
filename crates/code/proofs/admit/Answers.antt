-- `admit`: test 1, and then those of the code that was made.
use Rattle.std.specs.Prelude.{◌≡◌, ℕ, Ok}
use Rattle.std.proofs.Common.{rules, ap, sym, ◌∙◌}
use Rattle.code.specs.Sound.{made}
use Rattle.code.specs.SoundLaws.{made_of}
use Rattle.code.specs.SoundInput.{dimension_of}
use Rattle.code.specs.Admitted.{admitted_by}
use Rattle.code.specs.AdmittedLaws.{refused_parameters, tested-made}
use Rattle.code.proofs.admit.Goals as goal

pub returns-in_err-code : goal.returns-in_err-code
returns-in_err-code c =
    let s = c.args in
    let e = refused_parameters dimension_of s.r s.m s.readings.now s.bits s.word (sym c.new.ensures ∙ c.in_err-code.was) in
    search rules

-- the code that was made
is_made : (c : goal.In_ok-code) → made c.args.r c.args.m ≡ Ok c.in_ok-code.code
is_made c = sym c.new.ensures ∙ c.in_ok-code.was

pub dimension-requires : goal.dimension-requires
dimension-requires c = (made_of _ _ _ (is_made c)).sound

pub admit_for-requires : goal.admit_for-requires
admit_for-requires c = (made_of _ _ _ (is_made c.before)).sound

pub returns : goal.returns
returns c =
    let made = c.before.before in
    let s = made.args in
    let code = made.in_ok-code.code in
    c.admit_for.ensures
    ∙ ap (λ (expected : ℕ). admitted_by code expected s.readings.now s.bits s.word) c.dimension.ensures
    ∙ tested-made dimension_of s.r s.m s.readings.now s.bits s.word code (is_made made)
