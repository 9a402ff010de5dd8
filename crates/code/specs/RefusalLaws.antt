-- A refusal is determined by its number and the values that it carries. Only 6 and 7 carry more than a place.
use Rattle.std.specs.Prelude.{◌≡◌, refl, cond, ◌<◌, eqb, Result, Ok, Err}
use Rattle.std.proofs.Common.{ap, sym, ◌∙◌, arith}
use Rattle.code.specs.declared.Refusal.{Refusal}
use Rattle.code.specs.declared.Refusal.TheVariants.{Parameters, InputLength, OutputLength, Entry, NotAWord, OutOfVisits, Tied, Torn, Pad}
use Rattle.code.specs.declared.Refusal.TheVariants.{NoEntry, Map, Named}
use Rattle.code.specs.Sound.{Carried, carrying, carried, completed, number_of}

-- the refusal of a number that carries these values
abbrev refusal_of : Carried → Refusal
refusal_of c =
    cond (eqb c.number 1) Parameters
    (cond (eqb c.number 2) InputLength
    (cond (eqb c.number 3) OutputLength
    (cond (eqb c.number 4) (Entry c.place)
    (cond (eqb c.number 5) (NotAWord c.place)
    (cond (eqb c.number 6) (OutOfVisits c.visits)
    (cond (eqb c.number 7) (Tied c.penalty c.visits)
    (cond (eqb c.number 8) Torn
    (cond (eqb c.number 9) Pad
    (cond (eqb c.number 10) NoEntry
    (cond (eqb c.number 11) Map Named))))))))))

refusal_is : (why : Refusal) → refusal_of (carried why) ≡ why
refusal_is Parameters = refl
refusal_is InputLength = refl
refusal_is OutputLength = refl
refusal_is (Entry place) = refl
refusal_is (NotAWord index) = refl
refusal_is (OutOfVisits allowed) = refl
refusal_is (Tied penalty visits) = refl
refusal_is Torn = refl
refusal_is Pad = refl
refusal_is NoEntry = refl
refusal_is Map = refl
refusal_is Named = refl

pub refusal_only : (why why' : Refusal) → carried why ≡ carried why' → why ≡ why'
refusal_only why why' e = sym (refusal_is why) ∙ ap refusal_of e ∙ refusal_is why'

-- 0 is no refusal's number
pub number_above : (why : Refusal) → 0 < number_of why
number_above Parameters = omega arith
number_above InputLength = omega arith
number_above OutputLength = omega arith
number_above (Entry place) = omega arith
number_above (NotAWord index) = omega arith
number_above (OutOfVisits allowed) = omega arith
number_above (Tied penalty visits) = omega arith
number_above Torn = omega arith
number_above Pad = omega arith
number_above NoEntry = omega arith
number_above Map = omega arith
number_above Named = omega arith

-- an answer is determined by what it carries
pub completed_only : (a b : Result (Unit {0}) Refusal) → completed a ≡ completed b → a ≡ b
completed_only (Ok _) (Ok _) e = refl
completed_only (Ok _) (Err why) e = absurd (omega (arith, number_above why, ap (λ (c : Carried). c.number) e))
completed_only (Err why) (Ok _) e = absurd (omega (arith, number_above why, ap (λ (c : Carried). c.number) e))
completed_only (Err why) (Err why') e = ap Err (refusal_only why why' e)

-- no penalty and no visits but under 6 and 7
pub carries_none : (why : Refusal) → (number_of why ≡ 6 → ⊥) → (number_of why ≡ 7 → ⊥) → carried why ≡ carrying (number_of why) (carried why).place 0 0
carries_none Parameters f g = refl
carries_none InputLength f g = refl
carries_none OutputLength f g = refl
carries_none (Entry place) f g = refl
carries_none (NotAWord index) f g = refl
carries_none (OutOfVisits allowed) f g = absurd (f refl)
carries_none (Tied penalty visits) f g = absurd (g refl)
carries_none Torn f g = refl
carries_none Pad f g = refl
carries_none NoEntry f g = refl
carries_none Map f g = refl
carries_none Named f g = refl
