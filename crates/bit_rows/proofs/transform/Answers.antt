-- The remaining layers, after blocks of one bit or of eight, give the word by halves.
use Rattle.std.proofs.Common.{ap, sym, subst, ◌+◌, ◌-◌, ◌≡◌, ◌∙◌, arith, length}
use Rattle.std.proofs.Math.Nat.{sub-zero}
use Rattle.words.specs.Bits.{Bits}
use Rattle.words.specs.Word.{transform}
use Rattle.bit_rows.specs.Layers.{layers}
use Rattle.bit_rows.specs.BlockLaws.{keeps_transform, length-blocks, bits_blocks}
use Rattle.bit_rows.proofs.LayerLaws.{layers_double, layers-transform}
use Rattle.bit_rows.proofs.transform.Goals as goal

pub returns-then-m-lt3 : goal.returns-then-m-lt3
returns-then-m-lt3 c = (rw sub-zero at c.layers.ensures) ∙ layers-transform c.args.m c.args.word.now c.requires.0

pub layers-requires-2 : goal.layers-requires-2
layers-requires-2 c =
    let x = c.args.word.now in
    let made = c.eights.ensures in (
      omega arith,
      ap length made ∙ length-blocks (transform 3) 8 (keeps_transform 3) x ∙ c.requires.0,
      subst Bits (sym made) (bits_blocks (transform 3) 8 (keeps_transform 3) x c.requires.1),
    )

pub returns : goal.returns
returns c =
    let m = c.args.m in
    let left : m - 3 + 3 ≡ m = omega arith in
    c.layers-2.ensures ∙ ap (layers (m - 3) 8) c.eights.ensures ∙ layers_double 3 (m - 3) m left c.args.word.now c.requires.0
