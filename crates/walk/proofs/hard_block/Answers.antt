-- `hard_block`: where the block starts and has a row, it lies in the arrays.
use Rattle.std.proofs.Common.{sym, ◌∙◌, arith}
use Rattle.std.proofs.lemmas.Bool.{not-false}
use Rattle.walk.specs.InformationTestLaws.{hard_within}
use Rattle.walk.proofs.hard_block.Goals as goal

pub all_chosen-requires : goal.all_chosen-requires
all_chosen-requires t c =
    let within = hard_within t.row.S c.requires.0 c.requires.1 c.if-i-ne0.false (sym c.has_row.ensures ∙ not-false _ c.if-not-has_row.false-raw) in
    omega (arith, within.0)

pub put_hard-requires : goal.put_hard-requires
put_hard-requires t c =
    let within = hard_within t.row.S c.requires.0 c.requires.1 c.if-i-ne0.false (sym c.has_row.ensures ∙ not-false _ c.if-not-has_row.false-raw) in
    (c.requires.1, omega (arith, within.0), omega (arith, within.1))
