-- The transform of four entries, by its halves.
use mathlib.Core.Path.{refl, ◌∙◌}
use Prim.Native.Nat.{◌^◌}
use Rattle.first_order.specs.CrossLaws.{first_asked, pair-crossed, second_asked, both_transformed}
use Rattle.first_order.proofs.four.Goals as goal

pub cross-requires-2 : goal.cross-requires-2
cross-requires-2 c =
    let r = c.cross in
    first_asked c.args.row.now 2 c.requires.0 r.new.row r.ensures (2 ^ 31) c.requires.1

pub cross-requires-3 : goal.cross-requires-3
cross-requires-3 c =
    let r = c.cross in
    let a = c.cross-2 in
    second_asked c.args.row.now 2 c.requires.0 r.new.row r.ensures a.new.row a.auto.row (2 ^ 31) c.requires.1

pub returns : goal.returns
returns c =
    let r = c.cross in
    let a = c.cross-2 in
    let b = c.cross-3 in
    both_transformed c.args.row.now 2 c.requires.0 r.new.row r.ensures a.new.row a.auto.row b.new.row b.auto.row 2 refl refl
    (a.ensures ∙ pair-crossed _) (b.ensures ∙ pair-crossed _)
