-- What the look finds gives the outcome.
use Rattle.std.specs.Prelude.{◌≡◌}
use Rattle.decoding.specs.Quick.{hard}
use mathlib.Core.Path.{ap, sym, ◌∙◌}
use Prim.Native.Nat.{ℕ, ◌-◌, ◌/◌}
use native.Mathlib.Omega.{arith}
use lib.IntN.{pos}
use lib.ListN.{length, replicate, length-replicate}
use lib.Seq.{length-take-le}
use Rattle.words.proofs.KindLaws.{sum-kinds}
use Rattle.hadamard.specs.Hadamard.{entry}
use Rattle.hadamard.proofs.HadamardLaws.{length-hadamard}
use Rattle.hadamard.proofs.EncodedLaws.{sum-first_order}
use Rattle.code.specs.declared.Refusal.TheVariants.{Tied}
use Rattle.code.specs.SoundLaws.{length_most}
use Rattle.search.specs.Outcome.{found_with, refused}
use Rattle.decoding.specs.PathLaws.{hard_bit}
use Rattle.first_order.specs.OutcomeLaws.{sums_small, best_most, tied_reported, found-reported}
use Rattle.first_order.proofs.decode.Goals as goal
use Rattle.first_order.proofs.decode.Goals.{After-from-sign}

pub find-seen-requires : goal.find-seen-requires
find-seen-requires c =
    let l = c.args.readings.now in
    let most = length_most c.requires.sound in
    let long = c.requires.entries.long in (
      c.requires.sound.r_small,
      c.requires.sound.m_small,
      long,
      length-take-le (length l - 0) (replicate 256 (pos 0)) (omega (arith, length-replicate 256 (pos 0))) ∙ omega (arith, long),
      sums_small c.requires,
    )

pub total_size-requires : goal.total_size-requires
total_size-requires c = omega (arith, sums_small c.requires)

pub overflow_sub-penalty : goal.overflow_sub-penalty
overflow_sub-penalty c =
    let a = c.args in
    let f = c.find-seen in
    let r = f.result in
    omega (
      arith,
      best_most a.m a.readings.now a.bits.now a.word.now c.requires r.place r.best r.second f.ensures.largest,
      c.total_size.ensures,
    )

pub returns-then-seen : goal.returns-then-seen
returns-then-seen c =
    let a = c.args in
    let f = c.find-seen in
    let r = f.result in
    ap (λ (t : ℕ). refused (Tied ((t - r.best) / 2) 0) a.bits.now a.word.now) c.total_size.ensures
    ∙ tied_reported a.m a.readings.now a.bits.now a.word.now c.requires r.place r.best r.second f.ensures.largest c.if-seen.true

-- the sign as a bit
sign_bit : (c : After-from-sign) → c.from-sign.result ≡ hard (entry c.args.m c.args.readings.now c.find-seen.result.place)
sign_bit c = c.from-sign.ensures ∙ c.find-seen.ensures.sign-is

pub put_bits-requires : goal.put_bits-requires
put_bits-requires c =
    let m = c.args.m in
    let f = c.find-seen in
    let z = entry m c.args.readings.now f.result.place in (
      c.requires.long_bits ∙ sym (sum-kinds 1 m) ∙ sum-first_order m ∙ omega arith,
      c.requires.sound.m_small,
      omega (arith, f.ensures.largest.within, length-hadamard m c.args.readings.now c.requires.entries.long),
      omega (arith, sign_bit (goal.at.put_bits-requires c).After-from-sign, hard_bit z),
    )

pub returns : goal.returns
returns c =
    let a = c.args in
    let f = c.find-seen in
    let r = f.result in
    let b = c.put_bits in
    let w = c.put_word in
    ap (λ (t : ℕ). found_with ((t - r.best) / 2) ((r.best - r.second) / 2) 0 b.new.bits w.new.word) c.total_size.ensures
    ∙ found-reported a.m a.readings.now a.bits.now a.word.now c.requires r.place r.best r.second f.ensures.largest
    c.if-seen.false c.from-sign.result (sign_bit (goal.at.returns c).After-from-sign) b.new.bits w.new.word b.ensures w.ensures
