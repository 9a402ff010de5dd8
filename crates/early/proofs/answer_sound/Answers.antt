-- The rows for the quick reading are the fronts of two arrays of 256.
use native.Mathlib.Omega.{arith}
use Rattle.code.specs.SoundLaws.{dimension-largest}
use Rattle.early.proofs.answer_sound.Goals as goal

pub slice_bounds-own_bits-end : goal.slice_bounds-own_bits-end
slice_bounds-own_bits-end c = omega (arith, dimension-largest c.args.code c.requires.sound, c.requires.long_bits)
