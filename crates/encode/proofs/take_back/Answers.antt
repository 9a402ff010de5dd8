-- The kinds and the row are at the fronts of two scratch arrays.
use Rattle.std.specs.Prelude.{ℕ, List, replicate}
use Rattle.std.proofs.Common.{ap, sym, ◌∙◌}
use Rattle.words.specs.Inverse.{taken_back}
use Rattle.words.proofs.KindLaws.{length-kinds, sum-kinds, bits_kinds}
use Rattle.encode.specs.Outcome.{taking_back}
use Rattle.encode.specs.WorkLaws.{kinds-read, zeros-lent}
use Rattle.encode.proofs.take_back.Goals as goal

abbrev zeros : List ℕ
zeros = replicate 256 0

pub take_by_kinds-requires : goal.take_by_kinds-requires
take_by_kinds-requires c =
    let s = c.args in
    let r = s.code.r in
    let m = s.code.m in (
      rw (kinds-read r m _ zeros _ c.put_kinds.ensures c.length-n.ensures)
          (record {
            long_kinds = length-kinds r m;
            are_kinds = bits_kinds r m;
            long_bits = c.requires.long_bits ∙ sym (sum-kinds r m);
            long_word = c.requires.long_word;
          }),
      c.requires.entries,
      zeros-lent s.code _ c.requires.sound c.length-n.ensures,
    )

pub returns : goal.returns
returns c =
    let s = c.args in
    let r = s.code.r in
    let m = s.code.m in
    c.take_by_kinds.ensures
    ∙ ap (λ (ks : List ℕ). taking_back (taken_back m ks s.word.now) s.bits.now) (kinds-read r m _ zeros _ c.put_kinds.ensures c.length-n.ensures)
