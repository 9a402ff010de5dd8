-- `rows::put_signs` meets its contract.
use Rattle.std.proofs.Common.{ap, ◌∙◌, get_or, set, pos, arith, to_z-of_z, w32}
use Rattle.decoding.specs.Quick.{hard}
use Rattle.rows.specs.RowLaws.{sign-more}
use Rattle.rows.proofs.put_signs.Goals as goal

pub loop-i-preserved : goal.loop-i-preserved
loop-i-preserved c =
    let l = c.loop-i in
    let x = get_or c.args.row.now l.i (pos 0) in
    ap (set l.word l.i) (c.hard.ensures.0 ∙ ap hard (to_z-of_z {w = w32} {z = x} (record { sfits = c.hard-arg-1.given })))
    ∙ sign-more c.args.word.now l.word c.args.row.now l.i c.requires l.invariant (omega arith)
