-- `index::start_of` meets its contract: each return is what the tests that led there show.
use Rattle.std.proofs.Common.{rules, sym, ◌∙◌, arith}
use Rattle.index.proofs.FindingLaws.{start_none, start_past, start-end, start-found, start-refused}
use Rattle.index.proofs.start_of.Goals as goal

pub returns-then-table-w : goal.returns-then-table-w
returns-then-table-w c = let g = c.args in start_none g.capture.now g.table.now g.w (omega arith)

pub returns-then-capture-entry : goal.returns-then-capture-entry
returns-then-capture-entry c = let g = c.args in start_past g.capture.now g.table.now g.w (omega arith) (omega arith)

pub returns-in_err-start : goal.returns-in_err-start
returns-in_err-start c =
    let g = c.args in
    let e = start-refused g.capture.now g.table.now g.w (omega arith) (omega arith) _ (sym c.pass.ensures ∙ c.in_err-start.was) in
    search rules

pub returns-then-start-capture : goal.returns-then-start-capture
returns-then-start-capture c =
    let g = c.args in
    start-end g.capture.now g.table.now g.w (omega arith) (omega arith) _ (sym c.pass.ensures ∙ c.in_ok-start.was) c.if-start-capture.true

pub returns : goal.returns
returns c =
    let g = c.args in
    start-found g.capture.now g.table.now g.w (omega arith) (omega arith) _ (sym c.pass.ensures ∙ c.in_ok-start.was) c.if-start-capture.false
