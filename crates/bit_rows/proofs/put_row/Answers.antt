-- A word of fewer than eight bits is copied and transformed; eight are put as one number, more as blocks of sixteen, followed by the remaining layers.
use Rattle.std.proofs.Common.{ap, sym, subst, ◌+◌, ◌-◌, ◌≡◌, ◌∙◌, ◌++◌, arith, length, drop, ℕ}
use Rattle.words.specs.Bits.{Bits}
use Rattle.words.specs.Word.{transform}
use Rattle.bit_rows.specs.Layers.{layers}
use Rattle.bit_rows.specs.Eight.{unpacked, bytes_added, pairs_added, fours_added}
use Rattle.bit_rows.specs.BlockLaws.{keeps_transform, length-blocks, bits_blocks}
use Rattle.bit_rows.proofs.LayerLaws.{whole-blocks, layers_double}
use Rattle.bit_rows.proofs.SixteenLaws.{eight_put}
use Rattle.bit_rows.proofs.put_row.Goals as goal

pub returns-then-m-eq3 : goal.returns-then-m-eq3
returns-then-m-eq3 c =
    let made : ℕ → ℕ = λ n. fours_added (pairs_added (bytes_added n)) in
    c.store.ensures
    ∙ ap (λ (x : ℕ). unpacked x ++ drop 8 c.args.row.now)
    (c.three_layers.ensures ∙ ap made c.load.ensures)
    ∙ eight_put c.args.m c.args.word.now c.args.row.now c.if-m-eq3.true
    c.requires.0 c.requires.1 c.requires.2

pub put_sixteens-requires : goal.put_sixteens-requires
put_sixteens-requires c = (c.requires.1 ∙ sym c.requires.0, whole-blocks 4 c.args.m _ (omega (arith, c.if-m-eq3.false)) c.requires.0, c.requires.2)

pub layers-requires : goal.layers-requires
layers-requires c =
    let x = c.args.word.now in
    let made = c.put_sixteens.ensures in (
      omega (arith, c.if-m-eq3.false),
      ap length made ∙ length-blocks (transform 4) 16 (keeps_transform 4) x ∙ c.requires.0,
      subst Bits (sym made) (bits_blocks (transform 4) 16 (keeps_transform 4) x c.requires.2),
    )

pub returns : goal.returns
returns c =
    let m = c.args.m in
    let left : m - 4 + 4 ≡ m = omega (arith, c.if-m-eq3.false) in
    c.layers.ensures ∙ ap (layers (m - 4) 16) c.put_sixteens.ensures ∙ layers_double 4 (m - 4) m left c.args.word.now c.requires.0
