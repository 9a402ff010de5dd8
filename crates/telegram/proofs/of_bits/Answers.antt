-- `of_bits`: the two tests of the bits, then those of the reader.
use Rattle.std.specs.Prelude.{length}
use Rattle.std.proofs.Common.{rules, ap, sym, ◌∙◌}
use Rattle.code.specs.declared.Refusal.{Refusal}
use Rattle.code.specs.Entries.{first_bad_bit}
use Rattle.code.specs.EntriesLaws.{good_bits}
use Rattle.code.specs.AdmittedLaws.{entry_err, entry_ok}
use Rattle.guarded.specs.declared.Fault.TheVariants.{Link}
use Rattle.telegram.specs.Outcome.{faulted}
use Rattle.telegram.proofs.OutcomeLaws.{bits_short, bits_entry, bits_judged}
use Rattle.telegram.proofs.of_bits.Goals as goal

pub returns-then-bits-ne-BITS : goal.returns-then-bits-ne-BITS
returns-then-bits-ne-BITS c = ap faulted c.into.ensures ∙ sym (bits_short c.args.bits.now c.if-bits-ne-BITS.true)

pub returns-in_err-test_bits : goal.returns-in_err-test_bits
returns-in_err-test_bits c =
    let b = c.args.bits.now in
    let bad = entry_err (first_bad_bit b) (length b) (sym c.test_bits.ensures ∙ c.in_err-test_bits.was) in
    let e = ap (λ (why : Refusal). faulted (Link why)) bad.0 ∙ sym (bits_entry b c.if-bits-ne-BITS.false bad.1) in
    search rules

pub judge-requires : goal.judge-requires
judge-requires c =
    let b = c.args.bits.now in
    (good_bits b (entry_ok (first_bad_bit b) (length b) (sym c.test_bits.ensures ∙ c.in_ok-test_bits.was)), c.if-bits-ne-BITS.false)

pub returns : goal.returns
returns c =
    let b = c.args.bits.now in
    c.judge.ensures
    ∙ sym (bits_judged b c.if-bits-ne-BITS.false (entry_ok (first_bad_bit b) (length b) (sym c.test_bits.ensures ∙ c.in_ok-test_bits.was)))
