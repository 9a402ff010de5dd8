-- Each return is the outcome after the tests that led there.
use Rattle.std.specs.Prelude.{◌≡◌, ℕ, List, length, Ok}
use Rattle.std.proofs.Common.{rules, ap, sym, ◌∙◌, arith}
use Rattle.numbers.specs.Sums.{sum}
use Rattle.code.specs.declared.Code.{Code}
use Rattle.code.specs.SoundLaws.{length_most}
use Rattle.code.specs.Admitted.{admitted_by}
use Rattle.named.specs.Named.{row_admitted}
use Rattle.quick.specs.Outcome.{reading_over}
use Rattle.shortened.specs.Outcome.{left_of}
use Rattle.shortened.specs.OutcomeLaws.{quick_refused, quick-left, over-refused, over_done, allowed_over, Allowed, is_allowed}
use Rattle.encode.specs.WorkLaws.{zeros-lent}
use Rattle.shortened.specs.WorkLaws.{left-read, left-asked}
use Rattle.shortened.proofs.quick_shortened.Goals as goal
use Rattle.shortened.proofs.quick_shortened.Goals.{In_ok-code, After-admit_for}

pub returns-in_err-code : goal.returns-in_err-code
returns-in_err-code c =
    let s = c.args in
    let e = quick_refused s.r s.m s.named.now c.in_err-code.field-0.0 (sym c.in_err-code.was ∙ c.admit_row.ensures) s.readings.now s.bits.now s.word.now in
    search rules

-- the code and the row that are allowed
row_is : (c : In_ok-code) → Ok c.in_ok-code.code ≡ row_admitted c.args.r c.args.m c.args.named.now
row_is c = sym c.in_ok-code.was ∙ c.admit_row.ensures

allowed : (c : In_ok-code) → Allowed c.args.named.now c.in_ok-code.code
allowed c = is_allowed _ _ _ _ (row_is c)

-- the tests 2 to 4
tests : (c : After-admit_for)
    → let s = c.args in
    let code = c.in_ok-code.code in
    c.admit_for.result ≡ admitted_by code (sum (left_of s.named.now code)) s.readings.now (length s.bits.now) (length s.word.now)
tests c =
    let s = c.args in
    c.admit_for.ensures
    ∙ ap (λ (expected : ℕ). admitted_by c.in_ok-code.code expected s.readings.now (length s.bits.now) (length s.word.now)) c.count_left-left.ensures

pub count_left-left-requires : goal.count_left-left-requires
count_left-left-requires c = let a = allowed c in (a.sound, a.long-named)

pub admit_for-requires : goal.admit_for-requires
admit_for-requires c = (allowed (goal.at.admit_for-requires c).In_ok-code).sound

pub returns-in_err-admit_for : goal.returns-in_err-admit_for
returns-in_err-admit_for c =
    let s = c.args in
    let at = goal.at.returns-in_err-admit_for c in
    let code = c.in_ok-code.code in
    let why = c.in_err-admit_for.field-0.0 in
    let e =
    over-refused (left_of s.named.now code) code s.readings.now s.bits.now s.word.now why (sym c.in_err-admit_for.was ∙ tests at.After-admit_for)
    ∙ quick-left s.r s.m s.named.now code (row_is at.In_ok-code) s.readings.now s.bits.now s.word.now in
    search rules

pub length-n-requires : goal.length-n-requires
length-n-requires c = (allowed (goal.at.length-n-requires c).In_ok-code).sound

pub slice_bounds-kinds-end : goal.slice_bounds-kinds-end
slice_bounds-kinds-end c =
    let a = allowed (goal.at.slice_bounds-kinds-end c).In_ok-code in
    omega (arith, length_most a.sound, c.length-n.ensures)

pub put_left-requires : goal.put_left-requires
put_left-requires c =
    let a = allowed (goal.at.put_left-requires c).In_ok-code in
    (a.sound, a.long-named, zeros-lent c.in_ok-code.code _ a.sound c.length-n.ensures)

pub read_kinds-requires : goal.read_kinds-requires
read_kinds-requires c =
    let s = c.args in
    let at = goal.at.read_kinds-requires c in
    let code = c.in_ok-code.code in
    let ks = left_of s.named.now code in
    let is = sym c.in_ok-admit_for.was ∙ tests at.After-admit_for in
    left-asked s.named.now code (left-read s.named.now code _ _ c.put_left.ensures c.length-n.ensures) s.readings.now s.bits.now s.word.now
    (allowed_over code (sum ks) s.readings.now (length s.bits.now) (length s.word.now) (allowed at.In_ok-code).sound c.in_ok-admit_for.field-0 is).1

pub returns : goal.returns
returns c =
    let s = c.args in
    let at = goal.at.returns c in
    let code = c.in_ok-code.code in
    let ks = left_of s.named.now code in
    let is = sym c.in_ok-admit_for.was ∙ tests at.After-admit_for in
    let same =
    (allowed_over code (sum ks) s.readings.now (length s.bits.now) (length s.word.now) (allowed at.In_ok-code).sound c.in_ok-admit_for.field-0 is).0 in
    c.read_kinds.ensures
    ∙ ap (λ (x : List ℕ). reading_over code.m x s.readings.now) (left-read s.named.now code _ _ c.put_left.ensures c.length-n.ensures)
    ∙ ap (λ (d : Code). reading_over d.m ks s.readings.now) (sym same)
    ∙ over_done ks code s.readings.now s.bits.now s.word.now c.in_ok-admit_for.field-0 is
    ∙ quick-left s.r s.m s.named.now code (row_is at.In_ok-code) s.readings.now s.bits.now s.word.now
