-- An export of the early answer reports the outcome of the call that it makes.
use Rattle.std.specs.Prelude.{◌≡◌, refl, List, [], ◌∷◌, ℕ, Result, Ok, Err}
use Rattle.std.proofs.Common.{ap, ap₂, ◌∙◌}
use Rattle.code.specs.Sound.{carried}
use Rattle.search.specs.Outcome.{Outcome}
use Rattle.early.specs.Outcome as Early
use Rattle.answers.specs.Reported.{numbers, reported, shown_search}
use Rattle.code.specs.declared.Refusal.{Refusal}

-- the number of an answer, and the numbers that its values become
abbrev pub answered_number : Result ℕ Refusal → ℕ
answered_number (Ok penalty) = 0
answered_number (Err why) = (carried why).number

abbrev pub answered_numbers : Result ℕ Refusal → List ℕ
answered_numbers (Ok penalty) = numbers penalty 0 0 0
answered_numbers (Err why) = let c = carried why in numbers c.penalty 0 c.visits c.place

by_answered : (answer : Result ℕ Refusal) (bits word : List ℕ)
    → reported (answered_number answer) (answered_numbers answer) (bits ∷ word ∷ []) ≡ shown_search (Early.outcome_of answer bits word)
by_answered (Ok penalty) bits word = refl
by_answered (Err why) bits word = refl

pub reported_answered : (answer : Result ℕ Refusal) (bits word : List ℕ) (o : Outcome) (returned : ℕ) (out : List ℕ)
    → Early.outcome_of answer bits word ≡ o → returned ≡ answered_number answer → out ≡ answered_numbers answer
    → reported returned out (bits ∷ word ∷ []) ≡ shown_search o
reported_answered answer bits word o returned out e f g =
    ap₂ (λ (n : ℕ) (l : List ℕ). reported n l (bits ∷ word ∷ [])) f g ∙ by_answered answer bits word ∙ ap shown_search e
