-- `packing::readings_in` meets its contract: none of the codes passed has such a part.
use Rattle.std.proofs.Common.{◌≡◌, ℕ, suc, ◌-◌, ◌^◌, ap, sym, ◌∙◌, arith, pow_pos, eq-eqb, ne_eqb}
use Rattle.packing.specs.Layout.{part_length, readings_in}
use Rattle.packing.specs.LayoutLaws.{part_readings-some}
use Rattle.packing.proofs.readings_in.Goals as goal
use Rattle.packing.proofs.readings_in.Goals.{After-part_length}

-- the tests of one code: its part has these bytes, or another length
module _ (c : After-part_length) where
  here : c.args.bytes ≡ c.part_length.result → readings_in (suc c.loop-m.m) c.args.bytes ≡ 2 ^ c.loop-m.m
  unfolding readings_in
  here e = rw (eq-eqb c.args.bytes (part_length c.loop-m.m) (e ∙ c.part_length.ensures))

  past : (c.args.bytes ≡ c.part_length.result → ⊥) → readings_in (suc c.loop-m.m) c.args.bytes ≡ readings_in c.loop-m.m c.args.bytes
  unfolding readings_in
  past f = rw (ne_eqb c.args.bytes (part_length c.loop-m.m) (λ e. f (e ∙ sym c.part_length.ensures)))

pub returns-then-bytes-part_length : goal.returns-then-bytes-part_length
returns-then-bytes-part_length c =
    let own = (goal.at.returns-then-bytes-part_length c).After-part_length in
    rw (c.length.ensures, c.loop-m.invariant, here own c.if-bytes-part_length.true)
    (sym (part_readings-some (2 ^ c.loop-m.m) (pow_pos c.loop-m.m)))

pub loop-m-preserved : goal.loop-m-preserved
loop-m-preserved c =
    let own = (goal.at.loop-m-preserved c).After-part_length in
    let next : c.loop-m.m ≡ suc (c.loop-m.m - 1) = omega arith in
    c.loop-m.invariant ∙ past own c.if-bytes-part_length.false ∙ ap (λ (m : ℕ). readings_in m c.args.bytes) next

pub returns-else-bytes-part_length : goal.returns-else-bytes-part_length
unfolding readings_in
returns-else-bytes-part_length c =
    let own = (goal.at.returns-else-bytes-part_length c).After-part_length in
    let none : c.loop-m.m ≡ 0 = omega arith in
    rw (c.loop-m.invariant, past own c.if-bytes-part_length.false, none)
