-- The transform of sixteen entries, by its halves.
use mathlib.Core.Path.{refl}
use Prim.Native.Nat.{◌^◌}
use Rattle.first_order.specs.CrossLaws.{first_asked, second_asked, both_transformed}
use Rattle.first_order.proofs.sixteen.Goals as goal

pub eight-requires : goal.eight-requires
eight-requires c =
    let r = c.cross in
    first_asked c.args.row.now 8 c.requires.0 r.new.row r.ensures (2 ^ 31) c.requires.1

pub eight-requires-2 : goal.eight-requires-2
eight-requires-2 c =
    let r = c.cross in
    let a = c.eight in
    second_asked c.args.row.now 8 c.requires.0 r.new.row r.ensures a.new.row a.auto.row (2 ^ 31) c.requires.1

pub returns : goal.returns
returns c =
    let r = c.cross in
    let a = c.eight in
    let b = c.eight-2 in
    both_transformed c.args.row.now 8 c.requires.0 r.new.row r.ensures a.new.row a.auto.row b.new.row b.auto.row 4 refl refl
    a.ensures b.ensures
