-- What `encode` and `inverse` report and leave, for every input, in the rules' numbers (docs/RULES.md, §6).
use Rattle.std.specs.Prelude.{List, Bool, true, false, not, cond, ℕ, ◌^◌, length, ltb, eqb, Result, Ok, Err}
use Rattle.words.specs.Kinds.{kinds, dimension, encoded}
use Rattle.words.specs.Inverse.{TakenBack, taken, frozen_one, taken_back}
use Rattle.code.specs.declared.Refusal.{Refusal}
use Rattle.code.specs.declared.Refusal.TheVariants.{Parameters, InputLength, OutputLength, Entry, NotAWord}
use Rattle.code.specs.Sound.{made, carried}
use Rattle.code.specs.Entries.{first_bad_bit}
use Rattle.code.specs.Admitted.{bits_tested}
use Rattle.code.specs.declared.Code.{Code}

pub record Outcome : Type 0 where
  -- 0 if the call is done, else the refusal's number
  pub number : ℕ
  -- the place that 4 and 5 carry, else 0
  pub place : ℕ
  -- the lent buffer as the call leaves it
  pub buffer : List ℕ

abbrev pub done : List ℕ → Outcome
done buffer = record { number = 0; place = 0; buffer = buffer }

-- the buffer keeps its contents
abbrev pub refused : Refusal → List ℕ → Outcome
refused why buffer = record { number = (carried why).number; place = (carried why).place; buffer = buffer }

-- the answer in the rules' numbers
abbrev pub outcome_of : Result (Unit {0}) Refusal → List ℕ → Outcome
outcome_of (Ok _) = done
outcome_of (Err why) = refused why

abbrev pub is_good : Result Code Refusal → Bool
is_good (Ok code) = true
is_good (Err _) = false

-- tests 2 to 4 in their order: an input of bits that is to be so long, and a lent output of this length that is to have so much room
abbrev pub bits_admitted : List ℕ → ℕ → ℕ → ℕ → Result (Unit {0}) Refusal
bits_admitted input long output room =
    cond (not (eqb (length input) long)) (Err InputLength) (cond (not (eqb output room)) (Err OutputLength) (bits_tested input))

-- tests 1 to 4 in their order, over an input of bits and a lent output with the lengths that they should have; `rest` if no test applies
unfoldable pub tested : ℕ → ℕ → List ℕ → ℕ → List ℕ → ℕ → Outcome → Outcome
tested r m input long output room rest =
    let place = first_bad_bit input in
    cond (not (is_good (made r m))) (refused Parameters output)
    (cond (not (eqb (length input) long)) (refused InputLength output)
    (cond (not (eqb (length output) room)) (refused OutputLength output)
    (cond (ltb place (length input)) (refused (Entry place) output) rest)))

-- from r, m, the information bits, and the buffer for the word
unfoldable pub encoding : ℕ → ℕ → List ℕ → List ℕ → Outcome
encoding r m bits word = tested r m bits (dimension r m) word (2 ^ m) (done (encoded m (kinds r m) bits))

-- from what is taken back from a word, and the buffer for the information bits
abbrev pub taking_back : TakenBack → List ℕ → Outcome
taking_back (taken b) bits = done b
taking_back (frozen_one i) bits = refused (NotAWord i) bits

-- from r, m, the word, and the buffer for the information bits
unfoldable pub inverting : ℕ → ℕ → List ℕ → List ℕ → Outcome
inverting r m word bits = tested r m word (2 ^ m) bits (dimension r m) (taking_back (taken_back m (kinds r m) word) bits)
