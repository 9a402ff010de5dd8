-- Each return is the outcome after the tests that led there.
use Rattle.std.specs.Prelude.{◌≡◌, ℕ, List, length, Ok}
use Rattle.std.proofs.Common.{rules, ap, sym, ◌∙◌, arith}
use Rattle.words.specs.Inverse.{taken_back}
use Rattle.code.specs.SoundLaws.{length_most}
use Rattle.named.specs.Named.{row_admitted}
use Rattle.encode.specs.Outcome.{refused, taking_back}
use Rattle.encode.specs.WorkLaws.{zeros-lent}
use Rattle.encode.specs.OutcomeLaws.{tested_input, tested_refused, tested_passed, bits_passed}
use Rattle.shortened.specs.Outcome.{inverting_shortened}
use Rattle.shortened.specs.OutcomeLaws.{inverting-refused, inverting-left, Allowed, is_allowed}
use Rattle.shortened.specs.WorkLaws.{left-read, left_by_kinds}
use Rattle.shortened.proofs.inverse_shortened.Goals as goal
use Rattle.shortened.proofs.inverse_shortened.Goals.{In_ok-code}

pub returns-in_err-code : goal.returns-in_err-code
returns-in_err-code c =
    let s = c.args in
    let e = inverting-refused s.r s.m s.named.now c.in_err-code.field-0.0 (sym c.in_err-code.was ∙ c.admit_row.ensures) s.word.now s.bits.now in
    search rules

-- the code and the row that are allowed
row_is : (c : In_ok-code) → Ok c.in_ok-code.code ≡ row_admitted c.args.r c.args.m c.args.named.now
row_is c = sym c.in_ok-code.was ∙ c.admit_row.ensures

allowed : (c : In_ok-code) → Allowed c.args.named.now c.in_ok-code.code
allowed c = is_allowed _ _ _ _ (row_is c)

pub length-n-requires : goal.length-n-requires
length-n-requires c = (allowed c).sound

pub count_left-requires : goal.count_left-requires
count_left-requires c = let a = allowed (goal.at.count_left-requires c).In_ok-code in (a.sound, a.long-named)

pub returns-then-word-n : goal.returns-then-word-n
returns-then-word-n c =
    let s = c.args in
    let made = (goal.at.returns-then-word-n c).In_ok-code in
    tested_input _ _ _ _ _ _ _ (allowed made).good c.length-n.ensures c.if-word-n.true
    ∙ inverting-left s.r s.m s.named.now c.in_ok-code.code (row_is made) s.word.now s.bits.now

pub returns-in_err-admit_bits : goal.returns-in_err-admit_bits
returns-in_err-admit_bits c =
    let s = c.args in
    let made = (goal.at.returns-in_err-admit_bits c).In_ok-code in
    let e : refused c.in_err-admit_bits.field-0.0 s.bits.now ≡ inverting_shortened s.r s.m s.named.now s.word.now s.bits.now =
    tested_refused _ _ _ _ _ _ _ (allowed made).good c.length-n.ensures c.count_left.ensures (sym c.admit_bits.ensures ∙ c.in_err-admit_bits.was)
    ∙ inverting-left s.r s.m s.named.now c.in_ok-code.code (row_is made) s.word.now s.bits.now in
    search rules

pub slice_bounds-kinds-end : goal.slice_bounds-kinds-end
slice_bounds-kinds-end c =
    let a = allowed (goal.at.slice_bounds-kinds-end c).In_ok-code in
    omega (arith, length_most a.sound, c.length-n.ensures)

pub put_left-requires : goal.put_left-requires
put_left-requires c =
    let a = allowed (goal.at.put_left-requires c).In_ok-code in
    (a.sound, a.long-named, zeros-lent c.in_ok-code.code _ a.sound c.length-n.ensures)

pub take_by_kinds-requires : goal.take_by_kinds-requires
take_by_kinds-requires c =
    let s = c.args in
    let code = c.in_ok-code.code in
    let a = allowed (goal.at.take_by_kinds-requires c).In_ok-code in
    let passed = bits_passed s.word.now c.length-n.result (length s.bits.now) c.count_left.result (sym c.admit_bits.ensures ∙ c.in_ok-admit_bits.was) in (
      left_by_kinds s.named.now code (left-read s.named.now code _ _ c.put_left.ensures c.length-n.ensures) s.bits.now s.word.now
          (passed.long_output ∙ c.count_left.ensures) (passed.long_input ∙ c.length-n.ensures),
      passed.entries,
      zeros-lent code _ a.sound c.length-n.ensures,
    )

pub returns : goal.returns
returns c =
    let s = c.args in
    let code = c.in_ok-code.code in
    let made = (goal.at.returns c).In_ok-code in
    c.take_by_kinds.ensures
    ∙ ap
    (λ (ks : List ℕ). taking_back (taken_back code.m ks s.word.now) s.bits.now) (left-read s.named.now code _ _ c.put_left.ensures c.length-n.ensures)
    ∙ tested_passed _ _ _ _ _ _ _ (allowed made).good c.length-n.ensures c.count_left.ensures (sym c.admit_bits.ensures ∙ c.in_ok-admit_bits.was)
    ∙ inverting-left s.r s.m s.named.now code (row_is made) s.word.now s.bits.now
