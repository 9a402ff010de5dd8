-- `float_search::search_kinds`: what the walk ends with is the answer.
use borrow.Author.Rules.{rules}
use mathlib.Core.Path.{◌≡◌, ap, ap₂, sym, ◌∙◌}
use mathlib.Core.List.{List}
use mathlib.Core.Bool.{false}
use Prim.Native.Nat.{ℕ, ◌-◌, ◌^◌, ◌<◌}
use native.Mathlib.Omega.{arith}
use lib.ListN.{length, take}
use lib.Ieee.{sub, binary32}
use borrow.Author.Tests.{le-ltb}
use Rattle.words.specs.Kinds.{pick}
use Rattle.decoding.specs.Readings.{sum_limit}
use Rattle.code.specs.declared.Refusal.TheVariants.{OutOfVisits, Tied}
use Rattle.std.specs.Prelude.{Err}
use Rattle.search.specs.Outcome.{Outcome, found_with}
use Rattle.search.specs.RunnerUp.{RunnerUpOutcome, roomy, runner_up, runner_up_outcome_of, with_none}
use Rattle.search.proofs.RunnerUpLaws.{none_put, runner_up_out, runner_up_tied, runner_up-found}
use Rattle.search.specs.WorkLaws.{out_answer, ordered, many, runner_up-is, tied_answer, found-answer, walkable, pickable}
use Rattle.float_numbers.specs.Whole.{float, wholes}
use Rattle.float_walk.specs.Held.{count, second_of}
use Rattle.float_walk.specs.PenaltyLaws.{penalty-sub, penalty_of_lem, count_of}
use Rattle.float_search.proofs.search_kinds.Goals as goal
use Rattle.float_search.proofs.search_kinds.Goals.{Else-count}

abbrev beside : Outcome → List ℕ → RunnerUpOutcome
beside o x = record { outcome = o; runner_up = x }

-- the walk was not out of visits
on : (c : Else-count) → c.walk.result.1.out ≡ false
on c = c.if-count.false

-- two full paths are held, so that the second's penalty is the struct's
second_is : (c : Else-count) → let end = c.walk.result.0 in second_of end ≡ count end.second
second_is c =
    rw (le-ltb c.walk.result.0.held 2 (many c.requires.1 c.walk.ensures.0 (on c)))

-- the float difference of the two penalties is their gap
apart : (c : Else-count) → let end = c.walk.result.0 in
    sub binary32 end.second end.best ≡ float (count end.second - count end.best)
apart c =
    let end = c.walk.ensures in
    penalty-sub end.1.second end.1.best (omega (arith, ordered c.requires.1 end.0 (on c), second_is c))

small : (c : Else-count) → let end = c.walk.result.0 in count end.second - count end.best < sum_limit
small c = omega (arith, c.walk.ensures.1.second.small)

pub walk-requires : goal.walk-requires
walk-requires c = walkable c.requires.1

pub returns-then-count : goal.returns-then-count
returns-then-count c =
    let s = c.args in
    let counted = c.walk.result.1 in
    none_put c.requires.0 (Err (OutOfVisits s.allowed)) s.bits.now s.word.now
    ∙ runner_up_out s.m _ _ s.allowed s.bits.now s.word.now
    (out_answer c.requires.1 c.walk.ensures.0 c.if-count.true)

pub whole-gap-requires : goal.whole-gap-requires
whole-gap-requires c = let else1 = (goal.at.whole-gap-requires c).Else-count in penalty_of_lem _ (apart else1) (small else1)

gap_is : (c : Else-count) (g : ℕ) → let end = c.walk.result.0 in g ≡ count (sub binary32 end.second end.best) → g ≡ second_of end - count end.best
gap_is c g e =
    let end = c.walk.result.0 in
    e ∙ count_of _ (apart c) (small c) ∙ ap (λ (n : ℕ). n - count end.best) (sym (second_is c))

pub returns-then-gap-eq0 : goal.returns-then-gap-eq0
returns-then-gap-eq0 c =
    let else1 = (goal.at.returns-then-gap-eq0 c).Else-count in
    let s = else1.args in
    let counted = else1.walk.result.1 in
    let penalty = c.whole-penalty in
    none_put else1.requires.0 (Err (Tied penalty.result counted.visits)) s.bits.now s.word.now
    ∙ ap (λ (p : ℕ). runner_up_outcome_of (with_none (Err (Tied p counted.visits))) s.bits.now s.word.now) penalty.ensures
    ∙ runner_up_tied s.m _ _ s.allowed s.bits.now s.word.now
    (tied_answer else1.requires.1 else1.walk.ensures.0 (on else1) (sym (gap_is else1 c.whole-gap.result c.whole-gap.ensures) ∙ c.if-gap-eq0.true))

pub put_second-requires : goal.put_second-requires
put_second-requires c =
    (c.requires.0, pickable c.args.kinds.now c.requires.1 (search rules) (search rules))

pub returns : goal.returns
returns c =
    let else1 = (goal.at.returns c).Else-count in
    let s = else1.args in
    let end = else1.walk.result.0 in
    let counted = else1.walk.result.1 in
    let written = c.put_best.ensures in
    let kinds = s.kinds.now in
    let second = else1.walk.new.second in
    let shown : List ℕ = c.put_second.new.runner_up in
    let same : length c.put_best.new.word ≡ length s.word.now = c.put_best.auto.word in
    let is : shown ≡ runner_up s.m (take (2 ^ s.m) kinds) (take (2 ^ s.m) (wholes s.readings.now)) =
    c.put_second.ensures
    ∙ ap (λ (n : ℕ). roomy (pick (take n kinds) (take n second))) (same ∙ else1.requires.1.long_word)
    ∙ sym (runner_up-is else1.requires.1 else1.walk.ensures.0 (on else1)) in
    ap₂ (λ (p g : ℕ). beside (found_with p g counted.visits c.put_best.new.bits c.put_best.new.word) shown)
    c.whole-penalty.ensures (gap_is else1 c.whole-gap.result c.whole-gap.ensures)
    ∙ ap₂ (λ (b x : List ℕ). beside (found_with (count end.best) (second_of end - count end.best) counted.visits b x) shown)
    written.bits_are written.word-is
    ∙ runner_up-found s.m _ _ s.allowed s.bits.now s.word.now
    (found-answer else1.requires.1 else1.walk.ensures.0 (on else1)
    (λ e. c.if-gap-eq0.false (gap_is else1 c.whole-gap.result c.whole-gap.ensures ∙ e))) is
