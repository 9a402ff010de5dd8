-- `rounds::Situation::take_record` meets its contract.
use Rattle.std.proofs.Common.{refl, rules, arith, get_or}
use Rattle.record.specs.HeaderLaws.{record_small}
use Rattle.rounds.specs.Situation.{unread}
use Rattle.rounds.specs.SituationLaws.{took}
use Rattle.rounds.proofs.Situation.take_record.Goals as goal

pub count-requires : goal.count-requires
count-requires c =
    omega (arith, c.one-step.ensures.next, record_small (get_or (unread c.args.self.now c.args.input.now) 0 0))

pub returns : goal.returns
returns c =
    let t = took c.args.self.now c.args.input.now _ c.one-step.new.text c.one-step.result c.count.new.self refl c.one-step.ensures c.count.ensures in
    search rules
