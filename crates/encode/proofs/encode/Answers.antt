-- Each return is the outcome after the tests that led there.
use Rattle.std.specs.Prelude.{◌≡◌, length, Ok}
use Rattle.std.proofs.Common.{rules, ap, sym, ◌∙◌}
use Rattle.words.specs.Kinds.{kinds, encoded}
use Rattle.code.specs.declared.Code.{Code}
use Rattle.code.specs.Sound.{made}
use Rattle.code.specs.SoundLaws.{MadeOf, made_of}
use Rattle.encode.specs.Outcome.{refused, done, encoding}
use Rattle.encode.specs.OutcomeLaws.{tested_parameters, tested_refused, tested_passed, bits_passed, its_length, its_dimension}
use Rattle.encode.proofs.encode.Goals as goal
use Rattle.encode.proofs.encode.Goals.{In_ok-code}

pub returns-in_err-code : goal.returns-in_err-code
unfolding encoding
returns-in_err-code c =
    let s = c.args in
    let e : refused c.in_err-code.field-0.0 s.word.now ≡ encoding s.r s.m s.bits.now s.word.now =
    tested_parameters _ _ _ _ _ _ _ (sym c.new.ensures ∙ c.in_err-code.was) in
    search rules

-- the code that was made
good : (c : In_ok-code) → made c.args.r c.args.m ≡ Ok c.in_ok-code.code
good c = sym c.new.ensures ∙ c.in_ok-code.was

is_made : (c : In_ok-code) → MadeOf c.args.r c.args.m c.in_ok-code.code
is_made c = made_of _ _ _ (good c)

pub dimension-requires : goal.dimension-requires
dimension-requires c = (is_made (goal.at.dimension-requires c).In_ok-code).sound

pub length-requires : goal.length-requires
length-requires c = (is_made (goal.at.length-requires c).In_ok-code).sound

pub returns-in_err-admit_bits : goal.returns-in_err-admit_bits
unfolding encoding
returns-in_err-admit_bits c =
    let s = c.args in
    let g = good (goal.at.returns-in_err-admit_bits c).In_ok-code in
    let e : refused c.in_err-admit_bits.field-0.0 s.word.now ≡ encoding s.r s.m s.bits.now s.word.now =
    tested_refused _ _ _ _ _ _ _ g (its_dimension _ _ g c.dimension.ensures) (its_length _ _ g c.length.ensures)
    (sym c.admit_bits.ensures ∙ c.in_err-admit_bits.was) in
    search rules

pub put_word-requires : goal.put_word-requires
put_word-requires c =
    let s = c.args in
    let passed = bits_passed s.bits.now c.dimension.result (length s.word.now) c.length.result (sym c.admit_bits.ensures ∙ c.in_ok-admit_bits.was) in
    record {
      sound = (is_made (goal.at.put_word-requires c).In_ok-code).sound;
      long_bits = passed.long_input ∙ c.dimension.ensures;
      long_word = passed.long_output ∙ c.length.ensures;
      entries = passed.entries;
    }

pub returns : goal.returns
unfolding encoding
returns c =
    let s = c.args in
    let made = (goal.at.returns c).In_ok-code in
    let g = good made in
    ap done (c.put_word.ensures ∙ ap (λ (d : Code). encoded d.m (kinds d.r d.m) s.bits.now) (is_made made).same)
    ∙ tested_passed _ _ _ _ _ _ _ g (its_dimension _ _ g c.dimension.ensures) (its_length _ _ g c.length.ensures)
    (sym c.admit_bits.ensures ∙ c.in_ok-admit_bits.was)
