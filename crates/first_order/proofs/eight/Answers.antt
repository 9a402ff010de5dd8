-- The transform of eight entries, by its halves.
use mathlib.Core.Path.{refl}
use Prim.Native.Nat.{◌^◌}
use Rattle.first_order.specs.CrossLaws.{first_asked, second_asked, both_transformed}
use Rattle.first_order.proofs.eight.Goals as goal

pub four-requires : goal.four-requires
four-requires c =
    let r = c.cross in
    first_asked c.args.row.now 4 c.requires.0 r.new.row r.ensures (2 ^ 31) c.requires.1

pub four-requires-2 : goal.four-requires-2
four-requires-2 c =
    let r = c.cross in
    let a = c.four in
    second_asked c.args.row.now 4 c.requires.0 r.new.row r.ensures a.new.row a.auto.row (2 ^ 31) c.requires.1

pub returns : goal.returns
returns c =
    let r = c.cross in
    let a = c.four in
    let b = c.four-2 in
    both_transformed c.args.row.now 4 c.requires.0 r.new.row r.ensures a.new.row a.auto.row b.new.row b.auto.row 3 refl refl
    a.ensures b.ensures
