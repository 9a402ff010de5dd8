-- `cinorbis::Streams::round` meets its contract: each way out is one kind of round.
use Rattle.std.proofs.Common.{◌≡◌, length, arith}
use Rattle.rounds.specs.declared.Next.TheVariants.{Read}
use Rattle.rounds.specs.Situation.{next_of}
use Rattle.rounds.specs.SituationLaws.{next-shown, absent_short}
use Rattle.cinorbis.proofs.Streams.round.Goals as goal

pub refill-requires : goal.refill-requires
refill-requires g c =
    let a = c.args in
    let s = a.s.now in
    let is : next_of s a.input.now (length a.output.now) ≡ Read = cc in
    let t = next-shown s a.input.now (length a.output.now) Read is in
    (c.requires.0.order, c.requires.0.within, omega (arith, absent_short s a.input.now t.2 t.3, c.requires.1))
