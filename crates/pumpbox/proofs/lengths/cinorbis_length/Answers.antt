-- `cinorbis_length` meets its contract: a code that is made is sound.
use Rattle.std.proofs.Common.{sym, ◌∙◌}
use Rattle.code.specs.SoundLaws.{made_of}
use Rattle.pumpbox.proofs.lengths.cinorbis_length.Goals as goal

pub length-requires : goal.length-requires
length-requires c = (made_of _ _ _ (sym c.new.ensures ∙ c.in-Ok.is)).sound
