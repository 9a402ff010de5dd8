-- Test 1, and then the row's.
use Rattle.std.specs.Prelude.{◌≡◌, Ok}
use Rattle.std.proofs.Common.{rules, sym, ◌∙◌}
use Rattle.code.specs.Sound.{made}
use Rattle.code.specs.SoundLaws.{made_of}
use Rattle.named.specs.NamedLaws.{row_parameters, row_named, row_allowed}
use Rattle.named.proofs.admit_row.Goals as goal
use Rattle.named.proofs.admit_row.Goals.{In_ok-code}

pub returns-in_err-code : goal.returns-in_err-code
returns-in_err-code c =
    let s = c.args in
    let e = row_parameters s.r s.m s.named.now (sym c.new.ensures ∙ c.in_err-code.was) in
    search rules

-- the code that was made
is_made : (c : In_ok-code) → made c.args.r c.args.m ≡ Ok c.in_ok-code.code
is_made c = sym c.new.ensures ∙ c.in_ok-code.was

pub good_row-requires : goal.good_row-requires
good_row-requires c = (made_of _ _ _ (is_made c)).sound

pub returns-then-not-good_row : goal.returns-then-not-good_row
returns-then-not-good_row c =
    let made = (goal.at.returns-then-not-good_row c).In_ok-code in
    let s = c.args in
    row_named s.r s.m s.named.now c.in_ok-code.code (is_made made) (sym c.if-not-good_row.ensures)

pub returns : goal.returns
returns c =
    let made = (goal.at.returns c).In_ok-code in
    let s = c.args in
    row_allowed s.r s.m s.named.now c.in_ok-code.code (is_made made) (sym c.if-not-good_row.ensures)
