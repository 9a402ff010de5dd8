-- What the exports report: the outcome of each public call, as C sees it.
use Rattle.std.specs.Prelude.{List, [], ◌∷◌, ℕ, length, Result}
use Rattle.encode.specs.Outcome as Encode
use Rattle.quick.specs.Outcome as Quick
use Rattle.record.specs.Reader as Reader
use Rattle.search.specs.Outcome as Search
use Rattle.search.specs.RunnerUp.{RunnerUpOutcome}
use Rattle.code.specs.declared.Code.{Code}
use Rattle.code.specs.declared.Refusal.{Refusal}

-- penalty, gap, visits, place: the header's struct
abbrev pub numbers : ℕ → ℕ → ℕ → ℕ → List ℕ
numbers penalty gap visits place = penalty ∷ gap ∷ visits ∷ place ∷ []

-- what is returned, the numbers, and what was lent
pub record Report (B : Type 0) : Type 0 where
  pub returned : ℕ
  pub out : List ℕ
  pub lent : B

abbrev pub reported : {B : Type 0} → ℕ → List ℕ → B → Report B
reported returned out lent = record { returned = returned; out = out; lent = lent }

-- of lent buffers of bytes, in the order of the arguments
abbrev pub Reported : Type 0
Reported = Report (List (List ℕ))

-- an outcome of encode or inverse
abbrev pub shown : Encode.Outcome → Reported
shown o = reported o.number (numbers 0 0 0 o.place) (o.buffer ∷ [])

-- an outcome of the quick reading
abbrev pub shown_quick : Quick.Outcome → Reported
shown_quick o = reported o.number (numbers o.penalty 0 0 o.place) (o.bits ∷ o.word ∷ [])

-- an outcome of a search
abbrev pub shown_search : Search.Outcome → Reported
shown_search o = reported o.number (numbers o.penalty o.gap o.visits o.place) (o.bits ∷ o.word ∷ [])

-- with the runner-up in lent bytes of its own
abbrev pub shown_with_runner_up : RunnerUpOutcome → Reported
shown_with_runner_up w =
    let o = w.outcome in
    reported o.number (numbers o.penalty o.gap o.visits o.place) (o.bits ∷ o.word ∷ w.runner_up ∷ [])

-- what a record's bytes say, and its packed part: r, m, the part's length, place
abbrev pub shown_part : Result Code Refusal → List ℕ → Reported
shown_part h part = let t = Reader.outcome_of h in reported t.carry.number (numbers t.r t.m (length part) t.carry.place) []
