-- The loop's invariant: what is filled comes first, then what is unchanged.
use Rattle.std.proofs.Common.{◌∙◌, refl, ℕ, ◌/◌, ◌%◌, length, get_or, arith}
use Rattle.words.specs.Bits.{digit}
use Rattle.images.specs.ArrayLaws.{filled_more, filled_all}
use Rattle.images.proofs.spread.Goals as goal

pub loop-i-preserved : goal.loop-i-preserved
unfolding digit
loop-i-preserved c =
    let g = c.args in
    let l = c.loop-i in
    let d = g.table.now in
    let f : ℕ → ℕ = λ i. digit (i / g.width) (get_or g.columns.now (i % g.width) 0) in
    rw l.invariant (filled_more 0 f (length d) d refl l.i (f l.i) c.loop-i-test.true refl)

pub returns : goal.returns
returns c =
    let g = c.args in
    let d = g.table.now in
    let f : ℕ → ℕ = λ i. digit (i / g.width) (get_or g.columns.now (i % g.width) 0) in
    c.loop-i.invariant ∙ filled_all 0 f (length d) d refl c.loop-i.i (omega arith)
