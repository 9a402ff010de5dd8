-- In each arm the first eight kinds are those that their number encodes.
use mathlib.Core.Path.{◌≡◌, ap, sym, ◌∙◌, subst}
use mathlib.Core.List.{List}
use Prim.Native.Nat.{ℕ, ◌≤◌}
use native.Mathlib.Omega.{arith}
use lib.ListN.{length, take}
use Rattle.numbers.specs.Sums.{tabulate, sum}
use Rattle.bit_rows.specs.Pick.{pick_front, Pickable}
use Rattle.bit_rows.specs.PickLaws.{first_pickable}
use Rattle.bit_rows.specs.Eight.{packed, unpacked}
use Rattle.bit_rows.specs.EightLaws.{eight_unpacked}
use Rattle.bit_rows.proofs.pick_eight.Goals as goal

module _ (ks u b : List ℕ) (pre : (8 ≤ length ks) × Pickable ks u b) (n : ℕ) (is : packed ks ≡ n) where
  first : take 8 ks ≡ unpacked n
  first = eight_unpacked ks pre.0 pre.1.bits_kinds ∙ ap unpacked is

  asked : Pickable (unpacked n) u b
  asked = subst (λ (p : List ℕ). Pickable p u b) first (first_pickable ks u b pre.1 8 pre.0)

  back : (out : List ℕ) (taken : ℕ) → (out ≡ pick_front (unpacked n) u b) × (taken ≡ sum (unpacked n))
      → (out ≡ pick_front (take 8 ks) u b) × (taken ≡ sum (take 8 ks))
  back out taken = subst (λ (p : List ℕ). (out ≡ pick_front p u b) × (taken ≡ sum p)) (sym first)

pub pick_each-requires : goal.pick_each-requires
unfolding unpacked tabulate
pick_each-requires c = asked _ _ _ c.requires 72340172838076673 (omega arith)

pub pick_each-requires-in-72340172838076672 : goal.pick_each-requires-in-72340172838076672
unfolding unpacked tabulate
pick_each-requires-in-72340172838076672 c = asked _ _ _ c.requires 72340172838076672 (omega arith)

pub pick_each-requires-in-72340168543043584 : goal.pick_each-requires-in-72340168543043584
unfolding unpacked tabulate
pick_each-requires-in-72340168543043584 c = asked _ _ _ c.requires 72340168543043584 (omega arith)

pub pick_each-requires-in-72057594037927936 : goal.pick_each-requires-in-72057594037927936
unfolding unpacked tabulate
pick_each-requires-in-72057594037927936 c = asked _ _ _ c.requires 72057594037927936 (omega arith)

pub pick_each-requires-in-0 : goal.pick_each-requires-in-0
unfolding unpacked tabulate
pick_each-requires-in-0 c = asked _ _ _ c.requires 0 (omega arith)

pub pick_each-requires-in_default : goal.pick_each-requires-in_default
pick_each-requires-in_default c = first_pickable _ _ _ c.requires.1 8 c.requires.0

pub returns-in-72340172838076673 : goal.returns-in-72340172838076673
unfolding unpacked tabulate
returns-in-72340172838076673 c = back _ _ _ c.requires 72340172838076673 (omega arith) _ _ c.pick_each.ensures

pub returns-in-72340172838076672 : goal.returns-in-72340172838076672
unfolding unpacked tabulate
returns-in-72340172838076672 c = back _ _ _ c.requires 72340172838076672 (omega arith) _ _ c.pick_each-in-72340172838076672.ensures

pub returns-in-72340168543043584 : goal.returns-in-72340168543043584
unfolding unpacked tabulate
returns-in-72340168543043584 c = back _ _ _ c.requires 72340168543043584 (omega arith) _ _ c.pick_each-in-72340168543043584.ensures

pub returns-in-72057594037927936 : goal.returns-in-72057594037927936
unfolding unpacked tabulate
returns-in-72057594037927936 c = back _ _ _ c.requires 72057594037927936 (omega arith) _ _ c.pick_each-in-72057594037927936.ensures

pub returns-in-0 : goal.returns-in-0
unfolding unpacked tabulate
returns-in-0 c = back _ _ _ c.requires 0 (omega arith) _ _ c.pick_each-in-0.ensures
