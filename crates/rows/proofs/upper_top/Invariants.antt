-- `rows::upper_top`: after j passes the new row has its first j sums.
use Rattle.std.proofs.Common.{◌≡◌, take}
use Rattle.std.proofs.Math.Seq.{paste}
use Rattle.decoding.specs.Quick.{upper_row}
use Rattle.rows.proofs.upper_top.Given as goal

abbrev pub invariant-loop-j : goal.invariant-loop-j
invariant-loop-j g l =
    let d = g.A.Arithmetic.wholes l.initial.rows in
    g.A.Arithmetic.wholes l.rows ≡ paste d l.h (upper_row l.h (g.A.Arithmetic.reads l.readings) (take l.h l.word)) l.j
