-- `hard_four`: the sums that the transform of four bits makes.
use mathlib.Core.Path.{ap, ◌∙◌}
use lib.IntN.{pos}
use lib.ListN.{get_or}
use mir.Syntax.{w32}
use mir.Facts.{to_z-of_z}
use Rattle.decoding.specs.Quick.{hard}
use Rattle.blocks.specs.InformationLaws.{hard-four}
use Rattle.blocks.proofs.information.hard_four.Goals as goal

pub returns : goal.returns
returns c =
    let d = c in
    let b = d in
    let g = b in
    let e = c in
    let rows = g.args.rows.now in
    hard-four rows g.args.bits.now g.requires.1 g.requires.0
    (c.hard-2.ensures.0 ∙ ap hard (to_z-of_z {w = w32} {z = get_or rows 4 (pos 0)} (record { sfits = c.hard-arg-4-1.given })))
    (b.hard-b.ensures.0 ∙ ap hard (to_z-of_z {w = w32} {z = get_or rows 5 (pos 0)} (record { sfits = b.hard-arg-1.given })))
    (e.hard.ensures.0 ∙ ap hard (to_z-of_z {w = w32} {z = get_or rows 6 (pos 0)} (record { sfits = e.hard-arg-3-1.given })))
    (d.hard-d.ensures.0 ∙ ap hard (to_z-of_z {w = w32} {z = get_or rows 7 (pos 0)} (record { sfits = d.hard-arg-2-1.given })))
