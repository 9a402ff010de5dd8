-- `packing::unpack` meets its contract: 2, then 3, then the readings.
use Rattle.std.proofs.Common.{ap, sym, ◌∙◌, Ok}
use Rattle.packing.specs.LayoutLaws.{readings-in, part_readings-no, part_readings-is}
use Rattle.packing.specs.Unpacking.{outcome_of}
use Rattle.packing.specs.UnpackingLaws.{no_part, other_room, all-unpacked}
use Rattle.packing.proofs.unpack.Goals as goal

pub returns-in_default : goal.returns-in_default
returns-in_default c =
    sym (no_part c.args.part.now c.args.readings.now (part_readings-no _ (sym c.readings_in.ensures ∙ c.in_default.is)))

pub returns-then-readings-n : goal.returns-then-readings-n
returns-then-readings-n c =
    let held = part_readings-is _ _ (sym c.readings_in.ensures ∙ c.in-Some.is) in
    sym (other_room c.args.part.now c.args.readings.now held.some (λ e. c.if-readings-n.true (e ∙ held.is)))

pub put_readings-requires : goal.put_readings-requires
put_readings-requires c =
    let held = part_readings-is _ _ (sym c.readings_in.ensures ∙ c.in-Some.is) in
    c.if-readings-n.false ∙ sym held.is ∙ readings-in _ c.args.part.now held.some

pub returns : goal.returns
returns c =
    let held = part_readings-is _ _ (sym c.readings_in.ensures ∙ c.in-Some.is) in
    ap (outcome_of (Ok tt)) c.put_readings.ensures
    ∙ sym (all-unpacked c.args.part.now c.args.readings.now held.some (c.if-readings-n.false ∙ sym held.is))
