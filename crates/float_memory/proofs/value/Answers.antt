-- `float_memory::value`: by straight code if i is the next index and starts no block of eight.
use native.Mathlib.Omega.{arith}
use Rattle.memory.specs.Memory.{Top}
use Rattle.memory.specs.TopLaws.{top_next}
use Rattle.float_memory.specs.FloatMemoryLaws.{short_asked, short_read}
use Rattle.float_memory.proofs.value.Goals as goal

pub start_of_1-requires : goal.start_of_1-requires
start_of_1-requires c =
    let o = c.if-i-eq1.true in
    let next = c in
    let start = next in
    let top : Top start.args.m start.args.was start.args.i 0 = top_next 0 (omega arith) next.if-was-i.true o in
    (o, short_asked start.args.rows.now start.requires top (omega arith) (omega arith) (omega arith) (omega arith))

pub returns-then-i-eq1 : goal.returns-then-i-eq1
returns-then-i-eq1 c =
    let o = c.if-i-eq1.true in
    let next = c in
    let start = next in
    let made = c.start_of_1 in
    let top : Top start.args.m start.args.was start.args.i 0 = top_next 0 (omega arith) next.if-was-i.true o in
    short_read start.args.rows.now start.requires top (omega arith) (omega arith) (omega arith) made.new.rows (omega arith) made.ensures

pub start_of_2-requires : goal.start_of_2-requires
start_of_2-requires c =
    let o = c.if-i-eq2.true in
    let next = c in
    let start = next in
    let top : Top start.args.m start.args.was start.args.i 1 = top_next 1 (omega arith) next.if-was-i.true o in
    (o, short_asked start.args.rows.now start.requires top (omega arith) (omega arith) (omega arith) (omega arith))

pub returns-then-i-eq2 : goal.returns-then-i-eq2
returns-then-i-eq2 c =
    let o = c.if-i-eq2.true in
    let next = c in
    let start = next in
    let made = c.start_of_2 in
    let top : Top start.args.m start.args.was start.args.i 1 = top_next 1 (omega arith) next.if-was-i.true o in
    short_read start.args.rows.now start.requires top (omega arith) (omega arith) (omega arith) made.new.rows (omega arith) made.ensures

pub start_of_4-requires : goal.start_of_4-requires
start_of_4-requires c =
    let o = c.if-i-eq4.true in
    let next = c in
    let start = next in
    let top : Top start.args.m start.args.was start.args.i 2 = top_next 2 (omega arith) next.if-was-i.true o in
    (o, short_asked start.args.rows.now start.requires top (omega arith) (omega arith) (omega arith) (omega arith))

pub returns-then-i-eq4 : goal.returns-then-i-eq4
returns-then-i-eq4 c =
    let o = c.if-i-eq4.true in
    let next = c in
    let start = next in
    let made = c.start_of_4 in
    let top : Top start.args.m start.args.was start.args.i 2 = top_next 2 (omega arith) next.if-was-i.true o in
    short_read start.args.rows.now start.requires top (omega arith) (omega arith) (omega arith) made.new.rows (omega arith) made.ensures
