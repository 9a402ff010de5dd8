-- `index::put_entry` meets its contract.
use Prim.Native.Nat.{◌%◌}
use borrow.Author.Tests.{eq-eqb, ne_eqb}
use Rattle.index.specs.Finding.{block}
use Rattle.index.proofs.put_entry.Goals as goal

pub bounds-table-w : goal.bounds-table-w
bounds-table-w c = c.requires c.if-w-eq0.true

pub returns-then-w-eq0 : goal.returns-then-w-eq0
returns-then-w-eq0 c = rw (eq-eqb (c.args.w % block) 0 c.if-w-eq0.true)

pub returns-else-w-eq0 : goal.returns-else-w-eq0
returns-else-w-eq0 c = rw (ne_eqb (c.args.w % block) 0 c.if-w-eq0.false)
