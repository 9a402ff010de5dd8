-- Each return is the outcome after the tests that led there.
use Rattle.std.specs.Prelude.{◌≡◌, length, Ok}
use Rattle.std.proofs.Common.{rules, ap, sym, ◌∙◌}
use Rattle.words.specs.Kinds.{kinds}
use Rattle.words.specs.Inverse.{taken_back}
use Rattle.code.specs.declared.Code.{Code}
use Rattle.code.specs.Sound.{made}
use Rattle.code.specs.SoundLaws.{MadeOf, made_of}
use Rattle.encode.specs.Outcome.{refused, inverting, taking_back}
use Rattle.encode.specs.OutcomeLaws.{tested_parameters, tested_input, tested_refused, tested_passed, bits_passed, its_length, its_dimension}
use Rattle.encode.proofs.inverse.Goals as goal
use Rattle.encode.proofs.inverse.Goals.{In_ok-code}

pub returns-in_err-code : goal.returns-in_err-code
unfolding inverting
returns-in_err-code c =
    let s = c.args in
    let e : refused c.in_err-code.field-0.0 s.bits.now ≡ inverting s.r s.m s.word.now s.bits.now =
    tested_parameters _ _ _ _ _ _ _ (sym c.new.ensures ∙ c.in_err-code.was) in
    search rules

-- the code that was made
good : (c : In_ok-code) → made c.args.r c.args.m ≡ Ok c.in_ok-code.code
good c = sym c.new.ensures ∙ c.in_ok-code.was

is_made : (c : In_ok-code) → MadeOf c.args.r c.args.m c.in_ok-code.code
is_made c = made_of _ _ _ (good c)

pub dimension-requires : goal.dimension-requires
dimension-requires c = (is_made (goal.at.dimension-requires c).In_ok-code).sound

pub length-n-requires : goal.length-n-requires
length-n-requires c = (is_made (goal.at.length-n-requires c).In_ok-code).sound

pub returns-then-word-n : goal.returns-then-word-n
unfolding inverting
returns-then-word-n c =
    let g = good (goal.at.returns-then-word-n c).In_ok-code in
    tested_input _ _ _ _ _ _ _ g (its_length _ _ g c.length-n.ensures) c.if-word-n.true

pub returns-in_err-admit_bits : goal.returns-in_err-admit_bits
unfolding inverting
returns-in_err-admit_bits c =
    let s = c.args in
    let g = good (goal.at.returns-in_err-admit_bits c).In_ok-code in
    let e : refused c.in_err-admit_bits.field-0.0 s.bits.now ≡ inverting s.r s.m s.word.now s.bits.now =
    tested_refused _ _ _ _ _ _ _ g (its_length _ _ g c.length-n.ensures) (its_dimension _ _ g c.dimension.ensures)
    (sym c.admit_bits.ensures ∙ c.in_err-admit_bits.was) in
    search rules

pub take_back-requires : goal.take_back-requires
take_back-requires c =
    let s = c.args in
    let passed = bits_passed s.word.now c.length-n.result (length s.bits.now) c.dimension.result (sym c.admit_bits.ensures ∙ c.in_ok-admit_bits.was) in
    record {
      sound = (is_made (goal.at.take_back-requires c).In_ok-code).sound;
      long_bits = passed.long_output ∙ c.dimension.ensures;
      long_word = passed.long_input ∙ c.length-n.ensures;
      entries = passed.entries;
    }

pub returns : goal.returns
unfolding inverting
returns c =
    let s = c.args in
    let made = (goal.at.returns c).In_ok-code in
    let g = good made in
    c.take_back.ensures ∙ ap (λ (d : Code). taking_back (taken_back d.m (kinds d.r d.m) s.word.now) s.bits.now) (is_made made).same
    ∙ tested_passed _ _ _ _ _ _ _ g (its_length _ _ g c.length-n.ensures) (its_dimension _ _ g c.dimension.ensures)
    (sym c.admit_bits.ensures ∙ c.in_ok-admit_bits.was)
