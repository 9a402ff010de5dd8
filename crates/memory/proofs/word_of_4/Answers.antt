-- `word_of_4`: the sums that the transform of four bits makes.
use Rattle.std.proofs.Common.{refl}
use Rattle.memory.proofs.LowLaws.{made_word_4}
use Rattle.memory.proofs.word_of_4.Goals as goal

pub returns : goal.returns
returns c = made_word_4 c.args.path.now c.args.e c.requires.1 c.args.word.now c.requires.0 c.requires.2 refl refl refl
