-- `cinorbis::Streams::refill` meets its contract: what came is what the reader gave, and stands after the bytes that are not yet used.
use Rattle.std.proofs.Common.{◌≡◌, ◌∙◌, ap, arith, length, ◌-◌, ℕ, Option}
use mathlib.Core.Path.{ap₂}
use borrow.Rule.Slice.PartMut.{mid_len}
use Rattle.rounds.specs.Situation.{after_read}
use Rattle.rounds.specs.SituationLaws.{length_behind}
use Rattle.cinorbis.specs.StreamsLaws.{read_on}
use Rattle.cinorbis.proofs.Streams.refill.Goals as goal

pub returns-clause-read : goal.returns-clause-read
returns-clause-read g c =
    let s = c.args.s.now in
    let k = s.«end» - s.at in
    let m = c.move_to_front.new.buffer in
    let r = c.read in
    let all : length m - k ≡ length c.args.input.now - k = ap (λ (n : ℕ). n - k) c.move_to_front.auto.buffer in
    let long : length r.new.buf ≡ length c.args.input.now - k = r.auto.buf ∙ mid_len k (length m) m (omega arith) ∙ all in
    read_on r.result s c.after_read.new.self m r.new.buf (length c.args.input.now - k) _ _ r.ensures.bytes r.ensures.bound long
    (omega (arith, c.requires)) (omega (arith, c.requires, c.move_to_front.auto.buffer))
    (c.after_read.ensures
    ∙ ap₂ (λ (got : Option ℕ) (n : ℕ). after_read got n s) c.ok-got.ensures.value
    (length_behind k (length c.args.input.now) m r.new.buf c.move_to_front.auto.buffer (omega (arith, c.requires)) r.auto.buf))
