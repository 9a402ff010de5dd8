-- `float_rows::loss` meets its contract.
use mathlib.Core.Path.{sym, ◌∙◌}
use native.Mathlib.Omega.{arith}
use lib.IntN.{pos}
use Rattle.numbers.specs.PartsLaws.{parts, negated, by_parts, less_parts, not_less_parts}
use Rattle.rows.specs.RowLaws.{loss_of_one}
use Rattle.float_numbers.specs.Whole.{whole_of}
use Rattle.float_numbers.proofs.WholeLaws.{whole_zero, whole_neg, whole_negative}
use Rattle.float_rows.proofs.loss.Goals as goal

pub returns-then-value : goal.returns-then-value
returns-then-value c =
    let s = c in
    let v = whole_of s.args.value in
    rw c.if-bit-eq0.true
    (whole_neg s.args.value s.requires
    ∙ by_parts _ _ (omega (arith, parts v, negated v, less_parts v (pos 0) (sym (whole_negative s.args.value s.requires) ∙ c.if-value.true))))

pub returns-then-bit-eq0 : goal.returns-then-bit-eq0
returns-then-bit-eq0 c =
    let s = c in
    let v = whole_of s.args.value in
    rw (c.if-bit-eq0.true, whole_zero)
    (by_parts _ _ (omega (arith, parts v, not_less_parts v (pos 0) (sym (whole_negative s.args.value s.requires) ∙ c.if-value.false))))

pub returns-then-value-2 : goal.returns-then-value-2
returns-then-value-2 c =
    let s = c in
    let v = whole_of s.args.value in
    rw (loss_of_one v s.args.bit c.if-bit-eq0.false, whole_zero)
    (by_parts _ _ (omega (arith, parts v, less_parts v (pos 0) (sym (whole_negative s.args.value s.requires) ∙ c.if-value-2.true))))

pub returns : goal.returns
returns c =
    let s = c in
    let v = whole_of s.args.value in
    rw (loss_of_one v s.args.bit c.if-bit-eq0.false)
    (by_parts _ _ (omega (arith, parts v, not_less_parts v (pos 0) (sym (whole_negative s.args.value s.requires) ∙ c.if-value-2.false))))
