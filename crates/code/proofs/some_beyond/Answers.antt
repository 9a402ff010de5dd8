-- `some_beyond`: the entries from i on, and what was found before them.
use Prim.Native.Nat.{◌-◌}
use mathlib.Core.Path.{refl}
use native.Mathlib.Omega.{arith}
use lib.ListN.{length}
use lib.IntN.{pos, nat_abs}
use mir.Syntax.{w16}
use mir.Val.{to_z}
use mir.Facts.{to_z-of_z}
use Rattle.code.specs.EntriesLaws.{Asked, ask_more, asked_all}
use Rattle.numbers.specs.Parts.{up}
use Rattle.code.proofs.some_beyond.Goals as goal

pub loop-reading-init : goal.loop-reading-init
loop-reading-init c = (omega arith, refl)

pub beyond-some-requires : goal.beyond-some-requires
beyond-some-requires c = let s = c.before.before.before in rw (to_z-of_z s.ranges.largest) s.requires

pub loop-reading-preserved : goal.loop-reading-preserved
loop-reading-preserved c =
    let s = c.before.before.before.before in
    let l = c.loop-reading in
    let is = rw (to_z-of_z s.ranges.largest, to_z-of_z (record { sfits = c.beyond-arg-1.given })) at c.beyond-some.ensures in
    let asked = rw (to_z-of_z s.ranges.largest) at l.invariant in
    rw (is, to_z-of_z s.ranges.largest) (ask_more (pos 0) nat_abs (up s.args.largest) s.args.readings.now l.reading-index l.some (omega arith) asked)

pub returns : goal.returns
returns c =
    let l = c.loop-reading in
    let s = c.before.before in
    asked_all (pos 0) nat_abs (up s.args.largest) s.args.readings.now l.reading-index l.some (omega arith) (rw (to_z-of_z s.ranges.largest) at l.invariant)
