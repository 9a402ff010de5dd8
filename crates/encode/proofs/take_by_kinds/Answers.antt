-- The word's row is its transform.
use Rattle.std.specs.Prelude.{ℕ, List, length}
use Rattle.std.proofs.Common.{ap, sym, ◌∙◌}
use Rattle.words.specs.TransformLaws.{length-transform}
use Rattle.encode.specs.Work.{taking_row}
use Rattle.encode.specs.OutcomeLaws.{taking_word}
use Rattle.encode.proofs.take_by_kinds.Goals as goal

pub take_row-requires : goal.take_row-requires
take_row-requires c =
    let s = c.args in
    let given = c.requires.0 in
    (ap length c.put_row.ensures ∙ length-transform s.m s.word.now given.long_word ∙ sym given.long_kinds, given.long_bits, given.are_kinds)

pub returns : goal.returns
returns c =
    let s = c.args in
    c.take_row.ensures ∙ ap (λ (u : List ℕ). taking_row s.kinds.now u s.bits.now) c.put_row.ensures ∙ taking_word s.m s.kinds.now s.word.now s.bits.now
