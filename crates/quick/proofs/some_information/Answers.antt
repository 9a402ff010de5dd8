-- `some_information`: the kinds from the index on, and what was found before them.
use Rattle.std.specs.Prelude.{◌-◌, length}
use Rattle.std.proofs.Common.{arith}
use Rattle.quick.specs.FrozenLaws.{found_at, seek_more, sought_all}
use Rattle.quick.proofs.some_information.Goals as goal

pub returns-then-kinds-ne0 : goal.returns-then-kinds-ne0
returns-then-kinds-ne0 c =
    let ks = c.args.kinds.now in
    found_at ks (length ks - 1) c.if-kinds-ne0.true

pub loop-kind-preserved : goal.loop-kind-preserved
loop-kind-preserved c =
    let l = c.loop-kind in
    seek_more c.args.kinds.now l.kind-index l.some (omega arith) l.invariant

pub returns : goal.returns
returns c =
    let l = c.loop-kind in
    sought_all c.args.kinds.now l.kind-index l.some (omega arith) l.invariant
