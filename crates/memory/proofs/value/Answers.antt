-- `value`: where only the rows of blocks that start at i change, from the row of the largest of them.
use Rattle.std.proofs.Common.{sym, ◌∙◌, arith}
use Rattle.numbers.specs.LowestLaws.{lowest_within}
use Rattle.memory.specs.TopLaws.{top_follows, starts_more}
use Rattle.memory.proofs.CodeLaws.{low_asked, low-made, first-ready, value_arrays, value-given}
use Rattle.memory.proofs.value.Goals as goal

pub start_of_1-requires : goal.start_of_1-requires
start_of_1-requires c =
    let o = c.if-i-eq1.true in
    let ready = first-ready c.requires (top_follows 0 (omega arith) (sym c.follows.ensures ∙ c.if-follows.true) o) in
    (o, low_asked ready (value_arrays c.requires (omega arith) (omega arith)) (omega arith) (omega arith))

pub returns-then-i-eq1 : goal.returns-then-i-eq1
returns-then-i-eq1 c =
    let ready = first-ready c.requires (top_follows 0 (omega arith) (sym c.follows.ensures ∙ c.if-follows.true) c.if-i-eq1.true) in
    value-given c.requires (omega arith) (omega arith)
    (low-made ready (value_arrays c.requires (omega arith) (omega arith)) (omega arith) c.start_of_1.ensures)

pub start_of_2-requires : goal.start_of_2-requires
start_of_2-requires c =
    let o = c.if-i-eq2.true in
    let ready = first-ready c.requires (top_follows 1 (omega arith) (sym c.follows.ensures ∙ c.if-follows.true) o) in
    (o, low_asked ready (value_arrays c.requires (omega arith) (omega arith)) (omega arith) (omega arith))

pub returns-then-i-eq2 : goal.returns-then-i-eq2
returns-then-i-eq2 c =
    let ready = first-ready c.requires (top_follows 1 (omega arith) (sym c.follows.ensures ∙ c.if-follows.true) c.if-i-eq2.true) in
    value-given c.requires (omega arith) (omega arith)
    (low-made ready (value_arrays c.requires (omega arith) (omega arith)) (omega arith) c.start_of_2.ensures)

pub start_of_4-requires : goal.start_of_4-requires
start_of_4-requires c =
    let o = c.if-i-eq4.true in
    let ready = first-ready c.requires (top_follows 2 (omega arith) (sym c.follows.ensures ∙ c.if-follows.true) o) in
    (o, low_asked ready (value_arrays c.requires (omega arith) (omega arith)) (omega arith) (omega arith))

pub returns-then-i-eq4 : goal.returns-then-i-eq4
returns-then-i-eq4 c =
    let ready = first-ready c.requires (top_follows 2 (omega arith) (sym c.follows.ensures ∙ c.if-follows.true) c.if-i-eq4.true) in
    value-given c.requires (omega arith) (omega arith)
    (low-made ready (value_arrays c.requires (omega arith) (omega arith)) (omega arith) c.start_of_4.ensures)

pub start_of_more-requires : goal.start_of_more-requires
start_of_more-requires c =
    let t = c.lowest_one in
    let within = lowest_within c.args.m t.result c.args.i t.ensures c.requires.inside in
    let more = starts_more t.result c.args.i t.ensures c.if-i-eq1.false c.if-i-eq2.false c.if-i-eq4.false in
    let ready = first-ready c.requires (top_follows t.result within (sym c.follows.ensures ∙ c.if-follows.true) t.ensures) in
    (omega arith, (more, t.ensures, value_arrays c.requires (omega arith) (omega arith), ready))

pub returns-then-follows : goal.returns-then-follows
returns-then-follows c = value-given c.requires (omega arith) (omega arith) c.start_of_more.ensures
