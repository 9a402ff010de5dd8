-- The kinds and the readings are at the fronts of arrays of 256.
use mathlib.Core.Path.{refl}
use Prim.Native.Nat.{◌^◌}
use Rattle.words.specs.Kinds.{kinds}
use Rattle.words.proofs.KindLaws.{length-kinds}
use Rattle.search.specs.WorkLaws.{front-is, same_readings, searchable}
use Rattle.search.proofs.search_sound.Goals as goal

pub search_kinds-result-requires : goal.search_kinds-result-requires
search_kinds-result-requires c =
    let s = c.args in
    let n = 2 ^ s.code.m in (
      refl,
      same_readings (front-is c.copy.new.to _ s.readings.now n c.copy.ensures c.requires.entries.long)
          (searchable _
          (front-is c.put_kinds.new.row _ (kinds s.code.r s.code.m) n c.put_kinds.ensures (length-kinds s.code.r s.code.m))
          c.requires),
    )
