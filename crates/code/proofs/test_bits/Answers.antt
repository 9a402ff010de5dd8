-- `test_bits`: there is a byte above 1, and every byte passed is at most 1.
use Rattle.std.specs.Prelude.{length}
use Rattle.std.proofs.Common.{sym, ◌∙◌, arith}
use Rattle.std.proofs.lemmas.Bool.{not-true}
use Rattle.code.specs.Entries.{first_bad_bit}
use Rattle.code.specs.EntriesLaws.{GoodBefore, first-here, first-none, good_more, none_above}
use Rattle.code.specs.AdmittedLaws.{entry_refused, entry_passed}
use Rattle.code.proofs.test_bits.Goals as goal

pub returns-then-not-some_bad_bit : goal.returns-then-not-some_bad_bit
returns-then-not-some_bad_bit c =
    let bits = c.args.bits.now in
    let none = none_above (λ b. b) 1 bits (sym c.some_bad_bit.ensures ∙ not-true _ c.if-not-some_bad_bit.true-raw) in
    entry_passed (first_bad_bit bits) (length bits) (omega (arith, none))

pub loop-i-init : goal.loop-i-init
loop-i-init c = λ j h. absurd (omega arith)

pub returns-then-bit-gt1 : goal.returns-then-bit-gt1
returns-then-bit-gt1 c =
    let bits = c.args.bits.now in
    let l = c.loop-i in
    let first = first-here 0 (λ b. b) 1 bits l.i l.invariant (omega arith) (omega arith) in
    rw first (entry_refused (first_bad_bit bits) (length bits) (omega (arith, first)))

pub loop-i-preserved : goal.loop-i-preserved
loop-i-preserved c =
    let bits = c.args.bits.now in
    let l = c.loop-i in
    good_more 0 (λ b. b) 1 bits l.i l.invariant (omega arith)

pub returns : goal.returns
returns c =
    let bits = c.args.bits.now in
    let l = c.loop-i in
    let none = first-none 0 (λ b. b) 1 bits l.i l.invariant (omega arith) in
    entry_passed (first_bad_bit bits) (length bits) (omega (arith, none))
