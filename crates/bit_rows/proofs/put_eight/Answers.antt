-- The loop's invariant is `OfEight`: the indices before j are filled.
use Rattle.std.proofs.Common.{◌∙◌}
use Rattle.bit_rows.specs.EightKindsLaws.{eight_frozen, eight_bit_left, eight_information, eight_ends}
use Rattle.bit_rows.proofs.put_eight.Goals as goal
use Rattle.bit_rows.proofs.put_eight.Goals.{then-j, else-j}

pub bounds-bits-used : goal.bounds-bits-used
bounds-bits-used g c = eight_bit_left g.row.D _ _ _ _ c.loop-j.invariant c.loop-j-test.true c.if-j.true

pub loop-j-preserved : goal.loop-j-preserved
loop-j-preserved g c =
    let w = c.loop-j.invariant in
    let h = c.loop-j-test.true in
    elim c.if-j.branch [
      | then-j t ↦ rw (t.eight-is, t.used-is) (eight_information g.row.D _ _ _ _ w h t.if-j.true)
      | else-j t ↦ rw (t.eight-is, t.used-is) (eight_frozen g.row.D _ _ _ _ w h t.if-j.false)
    ]

pub returns : goal.returns
returns g c =
    let done = eight_ends g.row.D _ _ _ _ c.loop-j.invariant c.loop-j-test.false in
    (c.copy.ensures ∙ done.0, done.1)
