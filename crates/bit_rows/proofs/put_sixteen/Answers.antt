-- Two numbers of eight bits, and the fourth layer between them.
use Rattle.std.proofs.Common.{ap, ◌∙◌, ℕ}
use Rattle.bit_rows.specs.Eight.{unpacked, bytes_added, pairs_added, fours_added}
use Rattle.numbers.specs.Lent.{lent_from}
use Rattle.bit_rows.specs.EightLaws.{three_layers}
use Rattle.bit_rows.proofs.SixteenLaws.{sixteen_put}
use Rattle.bit_rows.proofs.put_sixteen.Goals as goal

pub returns : goal.returns
returns c =
    let w = c.args.word.now in
    let made : ℕ → ℕ = λ n. fours_added (pairs_added (bytes_added n)) in
    sixteen_put w c.requires.0 c.requires.2 c.three_layers-x.result c.three_layers-y.result
    (ap unpacked (c.three_layers-x.ensures ∙ ap made c.load.ensures))
    (ap unpacked (c.three_layers-y.ensures ∙ ap made c.load-2.ensures) ∙ ap three_layers (lent_from 8 w))
    c.args.row.now c.store.new.word c.store-2.new.word c.requires.1 c.store.ensures c.store-2.ensures
