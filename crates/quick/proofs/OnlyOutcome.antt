-- No second answer and no second pair of buffers meet the promise of `quick`.
use Rattle.std.specs.Prelude.{◌≡◌, refl, List, ℕ, ◌<◌, ℤ, length, Result, Ok, Err}
use Rattle.std.proofs.Common.{ap, sym, ◌∙◌, arith}
use Rattle.code.specs.Sound.{carrying}
use Rattle.code.specs.AdmittedLaws.{allows, refuses, decided}
use Rattle.code.specs.RefusalLaws.{refusal_only, carries_none, number_above}
use Rattle.quick.specs.Outcome.{Outcome, outcome_of, reading_by, quick_reading}
use Rattle.quick.specs.OutcomeLaws.{reading-refused, reading-done}
use Rattle.code.specs.declared.Refusal.{Refusal}

-- two answers that report the same, with a number that carries nothing but a place
same_answer : (a b : Result ℕ Refusal) (x y v w : List ℕ) → outcome_of a x y ≡ outcome_of b v w → ((outcome_of a x y).number ≡ 6 → ⊥)
    → ((outcome_of a x y).number ≡ 7 → ⊥) → a ≡ b
same_answer (Ok p) (Ok q) x y v w e f g = ap (λ (o : Outcome). Ok o.penalty) e
same_answer (Ok p) (Err why) x y v w e f g = absurd (omega (arith, number_above why, ap (λ (o : Outcome). o.number) e))
same_answer (Err why) (Ok q) x y v w e f g = absurd (omega (arith, number_above why, ap (λ (o : Outcome). o.number) e))
same_answer (Err why) (Err why') x y v w e f g =
    let number = ap (λ (o : Outcome). o.number) e in
    let carry = ap (λ (o : Outcome). carrying o.number o.place 0 0) e in
    ap Err (refusal_only why why' (carries_none why f g ∙ carry ∙ sym (carries_none why' (λ k. f (number ∙ k)) (λ k. g (number ∙ k)))))

outcome_bits : (a : Result ℕ Refusal) (x y : List ℕ) → (outcome_of a x y).bits ≡ x
outcome_bits (Ok penalty) x y = refl
outcome_bits (Err why) x y = refl

outcome_word : (a : Result ℕ Refusal) (x y : List ℕ) → (outcome_of a x y).word ≡ y
outcome_word (Ok penalty) x y = refl
outcome_word (Err why) x y = refl

-- for any outcome that is not one of the search
pub outcome_only : (o : Outcome) → (o.number ≡ 6 → ⊥) → (o.number ≡ 7 → ⊥)
    → (a b : Result ℕ Refusal) (x y v w : List ℕ) → outcome_of a x y ≡ o → outcome_of b v w ≡ o → (a ≡ b) × (x ≡ v) × (y ≡ w)
outcome_only o six seven a b x y v w e f =
    let same = e ∙ sym f in
    let is = ap (λ (p : Outcome). p.number) (sym e) in (
      same_answer a b x y v w same (λ k. six (is ∙ k)) (λ k. seven (is ∙ k)),
      sym (outcome_bits a x y) ∙ ap (λ (p : Outcome). p.bits) same ∙ outcome_bits b v w,
      sym (outcome_word a x y) ∙ ap (λ (p : Outcome). p.word) same ∙ outcome_word b v w,
    )

module _ (r m : ℕ) (l : List ℤ) (bits word : List ℕ) where
  number_small : (quick_reading r m l bits word).number < 5
  number_small =
      elim (decided r m l (length bits) (length word)) [
        | allows c e is a ↦ rw (← reading-done r m l bits word c (reading_by c l) e refl) (omega arith)
        | refuses why e h ↦ rw (← reading-refused r m l bits word why e) h
      ]

  pub quick_only : (a b : Result ℕ Refusal) (x y v w : List ℕ)
      → outcome_of a x y ≡ quick_reading r m l bits word → outcome_of b v w ≡ quick_reading r m l bits word
      → (a ≡ b) × (x ≡ v) × (y ≡ w)
  quick_only = outcome_only (quick_reading r m l bits word) (λ k. omega (arith, number_small)) (λ k. omega (arith, number_small))
