-- `top`: the greater of the highest digit where the indices differ and the lowest one of i.
use Rattle.std.proofs.Common.{ℕ, ◌-◌, ◌^◌, subst}
use Rattle.std.specs.Int.Bits.{bit_or}
use Rattle.numbers.specs.Lowest.{LowestOne}
use Rattle.memory.specs.TopLaws.{some_one, is_top}
use Rattle.memory.proofs.top.Goals as goal

pub lowest_one-requires : goal.lowest_one-requires
lowest_one-requires c = rw c.power.ensures (some_one c.args.m c.args.was c.args.i c.requires.0 c.requires.2 c.requires.3)

pub returns : goal.returns
returns c =
    let s = c.args in
    let b = c.lowest_one in
    let o : LowestOne b.result (bit_or s.i (2 ^ (s.m - 1))) = subst (λ (k : ℕ). LowestOne b.result (bit_or s.i k)) c.power.ensures b.ensures in
    is_top s.m s.was s.i c.requires.0 c.requires.2 c.requires.3 c.highest_one.result b.result c.max.result c.highest_one.ensures o c.max.ensures
