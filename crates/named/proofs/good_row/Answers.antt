-- Each return is the test as far as it has been made.
use Rattle.std.specs.Prelude.{◌≡◌, Bool, ltb, Result}
use Rattle.std.specs.Result.{is_err}
use Rattle.std.proofs.Common.{ap, sym, ◌∙◌}
use Rattle.words.specs.Kinds.{kinds}
use Rattle.words.proofs.KindLaws.{length-kinds, bits_kinds}
use Rattle.code.specs.declared.Refusal.{Refusal}
use Rattle.named.specs.NamedLaws.{byte_wrong, bytes_right, wrong_length, wrong_byte, frozen_named, none_wrong}
use Rattle.named.proofs.good_row.Goals as goal

pub returns-then-named-length : goal.returns-then-named-length
returns-then-named-length c =
    let s = c.args in
    wrong_length s.named.now (kinds s.code.r s.code.m) (bits_kinds s.code.r s.code.m)
    (λ e. c.if-named-length.true (e ∙ length-kinds s.code.r s.code.m ∙ sym c.length.ensures))

-- whether the test of the bytes refuses
tested : {a b : Result (Unit {0}) Refusal} {t : Bool} → a ≡ b → is_err a ≡ t → is_err b ≡ t
tested e f = ap is_err (sym e) ∙ f

pub returns-then-is_err : goal.returns-then-is_err
returns-then-is_err c =
    let s = c.args in
    let long = c.if-named-length.false ∙ c.length.ensures ∙ sym (length-kinds s.code.r s.code.m) in
    wrong_byte s.named.now (kinds s.code.r s.code.m) (bits_kinds s.code.r s.code.m) long
    (byte_wrong s.named.now (tested c.test_bits.ensures (sym c.is_err.ensures.value ∙ c.if-is_err.true)))

pub returns-then-names_frozen : goal.returns-then-names_frozen
returns-then-names_frozen c =
    let s = c.args in
    let long = c.if-named-length.false ∙ c.length.ensures ∙ sym (length-kinds s.code.r s.code.m) in
    frozen_named s.named.now (kinds s.code.r s.code.m) (bits_kinds s.code.r s.code.m) long
    (bytes_right s.named.now (tested c.test_bits.ensures (sym c.is_err.ensures.value ∙ c.if-is_err.false)))
    (sym c.names_frozen.ensures ∙ c.if-names_frozen.true)

pub returns : goal.returns
returns c =
    let s = c.args in
    let long = c.if-named-length.false ∙ c.length.ensures ∙ sym (length-kinds s.code.r s.code.m) in
    ap (ltb 0) c.count_left.ensures
    ∙ none_wrong s.named.now (kinds s.code.r s.code.m) (bits_kinds s.code.r s.code.m) long
    (bytes_right s.named.now (tested c.test_bits.ensures (sym c.is_err.ensures.value ∙ c.if-is_err.false)))
    (sym c.names_frozen.ensures ∙ c.if-names_frozen.false)
