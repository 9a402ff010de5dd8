-- `cinorbis::Streams::run` meets its contract: it is a chain of rounds, as many as were counted.
use Rattle.std.proofs.Common.{◌≡◌, length}
use Rattle.cinorbis.specs.StreamsLaws.{Streaming}
use Rattle.cinorbis.proofs.Streams.run.Given as goal

abbrev pub invariant-loop : goal.invariant-loop
invariant-loop g l = record {
  streaming : Streaming l.counter l.s l.input l.output (g.R.Read.remaining l.initial.self.from) (g.R.Read.remaining l.self.from)
      (g.W.Write.contents l.initial.self.to) (g.W.Write.contents l.self.to);
  input : length l.input ≡ length l.initial.input;
  output : length l.output ≡ length l.initial.output;
}
