-- `record::try_record_length` meets its contract.
use Rattle.std.specs.Prelude.{ℕ, ◌+◌, ◌/◌, ◌%◌, Ok}
use Rattle.std.proofs.Common.{rules, ap, sym, ◌∙◌, arith, one-add}
use Rattle.code.specs.Sound.{Sound}
use Rattle.code.specs.SoundLaws.{made_of}
use Rattle.record.specs.Reader.{sized_by}
use Rattle.record.specs.ReaderLaws.{part_small}
use Rattle.record.proofs.try_record_length.Goals as goal

pub returns-in_err-code : goal.returns-in_err-code
returns-in_err-code c =
    let e = ap sized_by (sym c.code_of.ensures ∙ c.in_err-code.was) in
    search rules

-- the code that was made is sound
sound : (c : goal.In_ok-code) → Sound c.in_ok-code.code
sound c = (made_of (c.args.first % 16) (c.args.first / 16) _ (sym c.code_of.ensures ∙ c.in_ok-code.was)).sound

pub part_length-requires : goal.part_length-requires
part_length-requires c = sound c

pub overflow_add-result : goal.overflow_add-result
overflow_add-result c = omega (arith, part_small _ (sound c.before))

pub returns : goal.returns
returns c =
    ap (λ (k : ℕ). Ok (1 + k)) c.part_length.ensures
    ∙ ap Ok (one-add _)
    ∙ ap sized_by (sym (sym c.code_of.ensures ∙ c.in_ok-code.was))
