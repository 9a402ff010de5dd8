-- `rows::lower_top`: after j passes the new row has its first j sums.
use Rattle.std.proofs.Common.{◌≡◌}
use Rattle.std.proofs.Math.Seq.{paste}
use Rattle.decoding.specs.Quick.{lower_row}
use Rattle.rows.proofs.lower_top.Given as goal

abbrev pub invariant-loop-j : goal.invariant-loop-j
invariant-loop-j g l =
    let d = g.A.Arithmetic.wholes l.initial.rows in
    g.A.Arithmetic.wholes l.rows ≡ paste d l.h (lower_row l.h (g.A.Arithmetic.reads l.readings)) l.j
