-- `program::Record::search` meets its contract.
use Rattle.std.proofs.Common.{arith}
use Rattle.code.specs.SoundLaws.{length_most, dimension-largest}
use Rattle.record.specs.HeaderLaws.{header_sound}
use Rattle.program.proofs.Record.search.Goals as goal

pub dimension-k-requires : goal.dimension-k-requires
dimension-k-requires c = header_sound _ _ c.requires.0

pub length-n-requires : goal.length-n-requires
length-n-requires c = header_sound _ _ c.requires.0

pub slice_bounds-bits-end : goal.slice_bounds-bits-end
slice_bounds-bits-end c = omega (arith, dimension-largest _ (header_sound _ _ c.requires.0), c.dimension-k.ensures)

pub slice_bounds-word-end : goal.slice_bounds-word-end
slice_bounds-word-end c = omega (arith, length_most (header_sound _ _ c.requires.0), c.length-n.ensures)
