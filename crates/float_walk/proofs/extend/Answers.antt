-- `float_walk::extend`: the sum is exact, so that the test against the second's penalty is that of the counts.
use mathlib.Core.Path.{◌≡◌, ap, sym, ◌∙◌}
use Prim.Native.Nat.{ℕ, ◌+◌}
use native.Mathlib.Omega.{arith}
use borrow.Author.Tests.{lt-ltb, le-ltb, lt-leb}
use lib.Dec.{leb}
use lib.Ieee.{add, le, binary32}
use Rattle.decoding.specs.Readings.{loss}
use Rattle.walk.specs.Progress.{none_yet}
use Rattle.float_numbers.specs.Whole.{whole_of, float}
use Rattle.float_walk.specs.Held.{count}
use Rattle.float_walk.specs.PenaltyLaws.{penalty-add, penalty_of_lem, count_of, penalty_le}
use Rattle.float_walk.proofs.extend.Goals as goal
use Rattle.float_walk.proofs.extend.Goals.{After-loss}

-- the extension's penalty
abbrev new : After-loss → ℕ
new c = let s = c.before in count s.args.penalty + loss (whole_of s.args.value) s.args.bit

adds : (c : After-loss) → add binary32 c.args.penalty c.loss.result ≡ float (new c)
adds c =
    let s = c in
    penalty-add c.loss.result (loss (whole_of s.args.value) s.args.bit) s.requires.1 c.loss.ensures s.requires.3

-- the code's test against the second penalty
test : (c : After-loss) → le c.args.held.second (add binary32 c.args.penalty c.loss.result)
    ≡ leb (count c.args.held.second) (new c)
test c =
    let s = c in
    penalty_le s.requires.0.second (penalty_of_lem (new c) (adds c) s.requires.3)
    ∙ ap (leb (count s.args.held.second)) (count_of (new c) (adds c) s.requires.3)

pub returns-then-held-lt2 : goal.returns-then-held-lt2
returns-then-held-lt2 c =
    let l = (goal.at.returns-then-held-lt2 c).After-loss in
    (rw (lt-ltb l.args.held.held 2 (omega arith)) (lt-leb none_yet (new l) (omega (arith, l.requires.3))), adds l)

pub returns-then-held-after : goal.returns-then-held-after
returns-then-held-after c =
    let l = (goal.at.returns-then-held-after c).After-loss in
    rw (le-ltb l.args.held.held 2 (omega arith)) (sym (test l) ∙ c.if-held-after.true)

pub returns : goal.returns
returns c =
    let l = (goal.at.returns c).After-loss in
    (rw (le-ltb l.args.held.held 2 (omega arith)) (sym (test l) ∙ c.if-held-after.false), adds l)
