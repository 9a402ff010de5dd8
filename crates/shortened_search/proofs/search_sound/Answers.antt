-- The kinds that are left and the readings are at the fronts of arrays of 256.
use mathlib.Core.Path.{refl, ◌∙◌}
use Prim.Native.Nat.{◌^◌}
use Rattle.words.proofs.KindLaws.{length-kinds}
use Rattle.shortened.specs.Outcome.{left_of}
use Rattle.encode.specs.WorkLaws.{zeros-lent}
use Rattle.shortened.specs.WorkLaws.{long_left}
use Rattle.search.specs.WorkLaws.{front-is}
use Rattle.shortened_search.specs.OutcomeLaws.{left_searchable}
use Rattle.shortened_search.proofs.search_sound.Goals as goal

pub put_left-requires : goal.put_left-requires
put_left-requires c =
    let s = c.args in (
      c.requires.1.sound,
      c.requires.0.long ∙ length-kinds s.code.r s.code.m,
      zeros-lent s.code _ c.requires.1.sound
          c.length-n.ensures,
    )

pub search_kinds-result-requires : goal.search_kinds-result-requires
search_kinds-result-requires c =
    let s = c.args in
    let put = c.put_left in
    let copied = c.copy in
    let n = 2 ^ s.code.m in
    let kinds_are = front-is put.new.row _ (left_of s.named.now s.code) n put.ensures (long_left s.named.now s.code) in
    let readings_are = front-is copied.new.to _ s.readings.now n copied.ensures c.requires.1.entries.long in
    let named = s.named.now in
    (refl, left_searchable s.code named _ s.readings.now _ s.bits.now s.word.now kinds_are readings_are c.requires.0 c.requires.1)
