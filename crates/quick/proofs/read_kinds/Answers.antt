-- Word, bits and penalty are those of the written steps, over the row of kinds.
use Rattle.quick.specs.OutcomeLaws.{take_asked, all_read}
use Rattle.quick.proofs.read_kinds.Goals as goal

pub take_bits-requires : goal.take_bits-requires
take_bits-requires c =
    let s = c.args in (
      c.requires.0,
      take_asked s.m s.kinds.now s.readings.now c.quick_word.new.word c.quick_word.ensures s.word.now s.bits.now
          c.requires.1 c.requires.2 c.requires.3,
    )

pub returns : goal.returns
returns c =
    let s = c.args in
    let bits = c.take_bits in
    all_read s.m s.kinds.now s.readings.now c.quick_word.new.word c.quick_word.ensures bits.new.bits c.penalty.result
    bits.ensures c.penalty.ensures
