-- What the walk ends with is the answer.
use mathlib.Core.Path.{◌≡◌, ap, ap₂, sym, ◌∙◌}
use mathlib.Core.List.{List}
use Prim.Native.Nat.{ℕ, ◌-◌, ◌^◌}
use lib.ListN.{length, take}
use Rattle.words.specs.Kinds.{pick}
use Rattle.code.specs.declared.Refusal.TheVariants.{OutOfVisits, Tied}
use Rattle.std.specs.Prelude.{Err}
use Rattle.search.specs.Outcome.{Outcome, found_with}
use Rattle.search.specs.RunnerUp.{RunnerUpOutcome, roomy, runner_up}
use Rattle.search.proofs.RunnerUpLaws.{none_put, runner_up_out, runner_up_tied, runner_up-found}
use Rattle.search.specs.WorkLaws.{out_answer, ordered, runner_up-is, tied_answer, found-answer, walkable, pickable}
use borrow.Author.Rules.{rules}
use Rattle.search.proofs.search_kinds.Goals as goal

abbrev outcome_with : Outcome → List ℕ → RunnerUpOutcome
outcome_with o x = record { outcome = o; runner_up = x }

pub walk-end-requires : goal.walk-end-requires
walk-end-requires c = walkable c.requires.1

pub returns-then-end : goal.returns-then-end
returns-then-end c =
    let s = c.args in
    let end = c.walk-end.result in
    none_put c.requires.0 (Err (OutOfVisits s.allowed)) s.bits.now s.word.now
    ∙ runner_up_out s.m _ _ s.allowed s.bits.now s.word.now
    (out_answer c.requires.1 c.walk-end.ensures c.if-end.true)

pub overflow_sub-gap : goal.overflow_sub-gap
overflow_sub-gap c =
    let end = c.walk-end.result in
    ordered c.requires.1 c.walk-end.ensures c.if-end.false

pub returns-then-gap-eq0 : goal.returns-then-gap-eq0
returns-then-gap-eq0 c =
    let s = c.args in
    let end = c.walk-end.result in
    none_put c.requires.0 (Err (Tied end.best end.count.visits)) s.bits.now s.word.now
    ∙ runner_up_tied s.m _ _ s.allowed s.bits.now s.word.now
    (tied_answer c.requires.1 c.walk-end.ensures c.if-end.false c.if-gap-eq0.true)

pub put_second-requires : goal.put_second-requires
put_second-requires c =
    (c.requires.0, pickable c.args.kinds.now c.requires.1 (search rules) (search rules))

pub returns : goal.returns
returns c =
    let s = c.args in
    let end = c.walk-end.result in
    let written = c.put_best.ensures in
    let on = c.if-end.false in
    let kinds = s.kinds.now in
    let second = c.walk-end.new.second in
    let shown : List ℕ = c.put_second.new.runner_up in
    let same : length c.put_best.new.word ≡ length s.word.now = c.put_best.auto.word in
    let is : shown ≡ runner_up s.m (take (2 ^ s.m) kinds) (take (2 ^ s.m) s.readings.now) =
    c.put_second.ensures
    ∙ ap (λ (n : ℕ). roomy (pick (take n kinds) (take n second))) (same ∙ c.requires.1.long_word)
    ∙ sym (runner_up-is c.requires.1 c.walk-end.ensures on) in
    ap₂ (λ (b x : List ℕ). outcome_with (found_with end.best (end.second - end.best) end.count.visits b x) shown)
    written.bits_are written.word-is
    ∙ runner_up-found s.m _ _ s.allowed s.bits.now s.word.now (found-answer c.requires.1 c.walk-end.ensures on c.if-gap-eq0.false) is
