-- Each return is the outcome after the tests that led there.
use mathlib.Core.Path.{ap, sym, ◌∙◌}
use Prim.Native.Nat.{ℕ}
use lib.ListN.{length}
use Rattle.numbers.specs.Sums.{sum}
use Rattle.words.proofs.KindLaws.{length-kinds}
use Rattle.code.specs.Admitted.{admitted_by}
use Rattle.shortened.specs.Outcome.{left_of}
use Rattle.shortened.specs.OutcomeLaws.{allowed_over}
use Rattle.shortened_search.proofs.search_left.Goals as goal

pub count_left-left-requires : goal.count_left-left-requires
count_left-left-requires c =
    (c.requires.0, c.requires.1.long ∙ length-kinds c.args.code.r c.args.code.m)

pub search_sound-requires : goal.search_sound-requires
search_sound-requires c =
    let s = c.args in
    let ks = left_of s.named.now s.code in
    let k = length s.bits.now in
    let n = length s.word.now in
    let is = sym c.in-Ok.is ∙ c.admit_for.ensures ∙ ap (λ (expected : ℕ). admitted_by s.code expected s.readings.now k n) c.count_left-left.ensures in
    (c.requires.1, (allowed_over s.code (sum ks) s.readings.now k n c.requires.0 c.in-Ok.field-0 is).1)
