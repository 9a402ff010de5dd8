-- The kinds are at the front of the scratch array.
use lib.ListN.{replicate}
use Rattle.quick.specs.OutcomeLaws.{read_asked}
use Rattle.quick.proofs.take_reading.Goals as goal

pub read_kinds-requires : goal.read_kinds-requires
read_kinds-requires c =
    let s = c.args in
    read_asked s.code s.readings.now c.length-n.result c.length-n.ensures (replicate 256 0) c.put_kinds.new.row c.put_kinds.ensures
    s.bits.now s.word.now c.requires
