-- `cinorbis::Streams::run` meets its contract: it is a chain of rounds, and no count of records exceeds that of the rounds.
use Rattle.std.proofs.Common.{refl, ◌∙◌, inl, inr, arith}
use Rattle.cinorbis.specs.EndLaws.{along_bounded, along_ran}
use Rattle.cinorbis.specs.StreamsLaws.{streaming_start, streaming_round, streaming_whole}
use Rattle.cinorbis.proofs.Streams.run.Goals as goal

pub loop-init : goal.loop-init
loop-init g c = record {
  streaming = streaming_start c.args.input.now c.args.output.now c.start-s.result _ _ c.start-s.ensures c.requires.0 c.requires.1;
  input = refl;
  output = refl;
}

pub round-requires : goal.round-requires
round-requires g c =
    let o = c.loop in
    let along = o.invariant.streaming.along in
    let bounded = along_bounded o.counter o.s o.input o.output along in
    (bounded.ready, along.space, omega (arith, bounded.counts))

pub loop-preserved : goal.loop-preserved
loop-preserved g c =
    let o = c.loop in
    let t = c.round in record {
      streaming = streaming_round o.counter o.s o.input o.output _ _ _ _ o.invariant.streaming t.new.s t.new.input t.new.output _ _
          c.if-not-s.false t.auto.input t.auto.output t.ensures.taken t.ensures.streamed;
      input = t.auto.input ∙ o.invariant.input;
      output = t.auto.output ∙ o.invariant.output;
    }

pub returns-then-not-s-clause-whole : goal.returns-then-not-s-clause-whole
returns-then-not-s-clause-whole g c =
    let o = c.loop in
    streaming_whole o.counter o.s o.input o.output _ _ _ _ o.invariant.streaming (inl c.if-not-s.true)

pub returns : goal.returns
returns g c =
    let o = c.loop in
    record {
      ran = along_ran o.counter o.s o.input o.output o.invariant.streaming.along (inr (omega arith));
      whole = streaming_whole o.counter o.s o.input o.output _ _ _ _ o.invariant.streaming (inr (omega arith));
    }
