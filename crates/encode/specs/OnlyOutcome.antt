-- No second answer and no second buffer meet the promise of `encode`, or that of `inverse`.
use Rattle.std.specs.Prelude.{◌≡◌, refl, List, ℕ, ◌^◌, ◌<◌, Result, Ok, Err}
use Rattle.std.proofs.Common.{ap, sym, ◌∙◌, arith}
use Rattle.words.specs.Kinds.{kinds, dimension, encoded}
use Rattle.words.specs.Inverse.{TakenBack, taken, frozen_one, taken_back}
use Rattle.code.specs.declared.Refusal.{Refusal}
use Rattle.code.specs.Sound.{carrying}
use Rattle.code.specs.RefusalLaws.{refusal_only, carries_none, number_above}
use Rattle.encode.specs.Outcome.{Outcome, outcome_of, done, encoding, inverting, taking_back}
use Rattle.encode.specs.OutcomeLaws.{tested_small}

-- two answers that report the same, with a number that carries nothing but a place
same_answer : (a b : Result (Unit {0}) Refusal) (x y : List ℕ) → outcome_of a x ≡ outcome_of b y
    → ((outcome_of a x).number ≡ 6 → ⊥) → ((outcome_of a x).number ≡ 7 → ⊥) → a ≡ b
same_answer (Ok _) (Ok _) x y e f g = refl
same_answer (Ok _) (Err why) x y e f g = absurd (omega (arith, number_above why, ap (λ (o : Outcome). o.number) e))
same_answer (Err why) (Ok _) x y e f g = absurd (omega (arith, number_above why, ap (λ (o : Outcome). o.number) e))
same_answer (Err why) (Err why') x y e f g =
    let number = ap (λ (o : Outcome). o.number) e in
    let carry = ap (λ (o : Outcome). carrying o.number o.place 0 0) e in
    ap Err (refusal_only why why' (carries_none why f g ∙ carry ∙ sym (carries_none why' (λ k. f (number ∙ k)) (λ k. g (number ∙ k)))))

outcome_buffer : (a : Result (Unit {0}) Refusal) (x : List ℕ) → (outcome_of a x).buffer ≡ x
outcome_buffer (Ok _) x = refl
outcome_buffer (Err why) x = refl

-- for any outcome that is not one of the search
pub outcome_only : (o : Outcome) → (o.number ≡ 6 → ⊥) → (o.number ≡ 7 → ⊥)
    → (a b : Result (Unit {0}) Refusal) (x y : List ℕ) → outcome_of a x ≡ o → outcome_of b y ≡ o → (a ≡ b) × (x ≡ y)
outcome_only o six seven a b x y e f =
    let same = e ∙ sym f in
    let is = ap (λ (p : Outcome). p.number) (sym e) in (
      same_answer a b x y same (λ k. six (is ∙ k)) (λ k. seven (is ∙ k)),
      sym (outcome_buffer a x) ∙ ap (λ (p : Outcome). p.buffer) same ∙ outcome_buffer b y,
    )

only : (o : Outcome) → o.number < 6 → (a b : Result (Unit {0}) Refusal) (x y : List ℕ) → outcome_of a x ≡ o → outcome_of b y ≡ o → (a ≡ b) × (x ≡ y)
only o small = outcome_only o (λ k. omega arith) (λ k. omega arith)

-- every outcome has such a number
pub taking_small : (t : TakenBack) (bits : List ℕ) → (taking_back t bits).number < 6
taking_small (taken b) bits = omega arith
taking_small (frozen_one i) bits = omega arith

module _ (r m : ℕ) (a b : Result (Unit {0}) Refusal) (x y : List ℕ) where
  pub encode_only : (bits word : List ℕ) → outcome_of a x ≡ encoding r m bits word → outcome_of b y ≡ encoding r m bits word → (a ≡ b) × (x ≡ y)
  unfolding encoding
  encode_only bits word =
      only (encoding r m bits word) (tested_small r m bits (dimension r m) word (2 ^ m) (done (encoded m (kinds r m) bits)) (omega arith)) a b x y

  pub inverse_only : (word bits : List ℕ) → outcome_of a x ≡ inverting r m word bits → outcome_of b y ≡ inverting r m word bits → (a ≡ b) × (x ≡ y)
  unfolding inverting
  inverse_only word bits =
      let t = taken_back m (kinds r m) word in
      only (inverting r m word bits) (tested_small r m word (2 ^ m) bits (dimension r m) (taking_back t bits) (taking_small t bits)) a b x y
