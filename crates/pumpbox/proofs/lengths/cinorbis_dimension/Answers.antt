-- `cinorbis_dimension` meets its contract: a code that is made is sound.
use Rattle.std.proofs.Common.{sym, ◌∙◌}
use Rattle.code.specs.SoundLaws.{made_of}
use Rattle.pumpbox.proofs.lengths.cinorbis_dimension.Goals as goal

pub dimension-requires : goal.dimension-requires
dimension-requires c = (made_of _ _ _ (sym c.new.ensures ∙ c.in-Ok.is)).sound
