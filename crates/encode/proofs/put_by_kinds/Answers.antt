-- The filled row is of bits.
use Rattle.std.proofs.Common.{◌∙◌}
use Rattle.words.proofs.FillLaws.{length-fill, bits_fill}
use Rattle.encode.proofs.put_by_kinds.Goals as goal

pub transform-requires : goal.transform-requires
transform-requires c =
    let s = c.args in
    rw c.fill.ensures (length-fill s.kinds.now s.bits.now ∙ c.requires.0.long_kinds, bits_fill s.kinds.now s.bits.now c.requires.1)
