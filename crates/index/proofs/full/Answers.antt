-- `index::full` meets its contract.
use Prim.Native.Nat.{◌%◌}
use borrow.Author.Tests.{eq-eqb, ne_eqb}
use Rattle.index.specs.Finding.{block}
use Rattle.index.specs.Appending.{largest_count}
use Rattle.index.proofs.full.Goals as goal

pub returns-then-index-eq18446744073709551615 : goal.returns-then-index-eq18446744073709551615
returns-then-index-eq18446744073709551615 c = rw (eq-eqb c.args.index.records largest_count c.if-index-eq18446744073709551615.true)

pub returns-then-index-eq0 : goal.returns-then-index-eq0
returns-then-index-eq0 c = let n = c.args.index.records in
    rw (ne_eqb n largest_count c.if-index-eq18446744073709551615.false, eq-eqb (n % block) 0 c.if-index-eq0.true)

pub returns : goal.returns
returns c = let n = c.args.index.records in
    rw (ne_eqb n largest_count c.if-index-eq18446744073709551615.false, ne_eqb (n % block) 0 c.if-index-eq0.false)
