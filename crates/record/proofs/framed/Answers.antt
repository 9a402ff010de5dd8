-- `record::framed` meets its contract: first that all bytes are there, then the pad bits.
use mathlib.Core.Path.{sym, ◌∙◌}
use native.Mathlib.Omega.{arith}
use Rattle.record.specs.ReaderLaws.{frame_torn, frame_pad, frame_whole, pad_third, pad_none, part_of-one}
use Rattle.record.proofs.framed.Goals as goal

pub returns-then-s-part_length : goal.returns-then-s-part_length
returns-then-s-part_length c =
    let g = c.args in
    sym (frame_torn g.code g.s.now (omega arith))

pub bounds-s-2 : goal.bounds-s-2
bounds-s-2 c =
    let g = c.args in
    omega (arith, part_of-one g.code.m c.if-code-eq0.true)

pub returns-then-s-ne0 : goal.returns-then-s-ne0
returns-then-s-ne0 c =
    let g = c.args in
    let pad = pad_third g.code.m g.s.now c.if-code-eq0.true in
    sym (frame_pad g.code g.s.now (omega arith) (λ z. c.if-s-ne0.true (sym pad ∙ z)))

pub returns-else-s-ne0 : goal.returns-else-s-ne0
returns-else-s-ne0 c =
    let g = c.args in
    let pad = pad_third g.code.m g.s.now c.if-code-eq0.true in
    sym (frame_whole g.code g.s.now (omega arith) (pad ∙ c.if-s-ne0.false))

pub returns-else-code-eq0 : goal.returns-else-code-eq0
returns-else-code-eq0 c =
    let g = c.args in
    sym (frame_whole g.code g.s.now (omega arith) (pad_none g.code.m _ c.if-code-eq0.false))
