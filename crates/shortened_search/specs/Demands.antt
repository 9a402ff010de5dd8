-- The demands on the search over a shortened set: 1 with its checks, 2 and 3 over the smaller set of words; what a larger allowance changes; and what a
-- turned-over link costs. That they are met is proved in DemandsMet and TurnedOverMet.
use Rattle.std.specs.Prelude.{◌≡◌, List, [], ◌∷◌, map, ℕ, ◌+◌, ◌≤◌, ℤ, neg_ℤ, length, replicate}
use Rattle.numbers.specs.Sums.{sum}
use Rattle.words.specs.Kinds.{Word}
use Rattle.code.specs.Sound.{rm}
use Rattle.code.specs.Demand1.{Checks, reading_checks_for, Demand1}
use Rattle.search.specs.Outcome.{searching}
use Rattle.search.specs.Demands.{view, walk_checks_over, Searching, DemandsOf, RunnerUpShown}
use Rattle.shortened.specs.Outcome.{left_of}
use Rattle.shortened.specs.Demands.{with_row}
use Rattle.shortened_search.specs.Outcome.{searching_shortened}

abbrev pub search_shortened_checks : ℕ → ℕ → ℕ → List ℕ → List ℤ → List ℕ → List ℕ → Checks
search_shortened_checks r m allowed named l bits word =
    let ks = left_of named (rm r m) in
    with_row r m named (reading_checks_for (sum ks) r m l (length bits) (length word) (walk_checks_over m ks allowed l))

abbrev pub ShortenedDemand1 : ℕ → ℕ → ℕ → List ℕ → List ℤ → List ℕ → List ℕ → Type 0
ShortenedDemand1 r m allowed named l bits word =
    Demand1 (search_shortened_checks r m allowed named l bits word) (bits ∷ word ∷ []) (view (searching_shortened r m allowed named l bits word).outcome)

-- A larger allowance changes no answer and no refusal except 6, as with the plain search: numbers, buffers and runner-up stay the same
abbrev pub ShortenedLargerAllowance : ℕ → ℕ → List ℕ → List ℤ → List ℕ → List ℕ → Type 0
ShortenedLargerAllowance r m named l bits word = (allowed more : ℕ) → allowed ≤ more
    → ((searching_shortened r m allowed named l bits word).outcome.number ≡ 6 → ⊥)
    → searching_shortened r m more named l bits word ≡ searching_shortened r m allowed named l bits word

-- the search over the smaller set: the word c of demand 3 is one of its words
abbrev pub smaller_set : ℕ → ℕ → List ℕ → Searching
smaller_set r m named =
    let ks = left_of named (rm r m) in
    record { code = rm r m; kinds = ks; expected = sum ks; by = λ allowed l bits word. (searching_shortened r m allowed named l bits word).outcome }

abbrev pub ShortenedDemands : ℕ → ℕ → List ℕ → List ℤ → List ℕ → List ℕ → Type 0
ShortenedDemands r m named = DemandsOf (smaller_set r m named)

-- on success the runner-up is one of the smaller set, under every refusal there are zeros
pub record RunnerUpLeft (r m allowed : ℕ) (named : List ℕ) (l : List ℤ) (bits word : List ℕ) : Type 0 where
  pub found : (searching_shortened r m allowed named l bits word).outcome.number ≡ 0
      → RunnerUpShown m (left_of named (rm r m)) l (searching_shortened r m allowed named l bits word)
  pub refused : ((searching_shortened r m allowed named l bits word).outcome.number ≡ 0 → ⊥)
      → (searching_shortened r m allowed named l bits word).runner_up ≡ replicate 256 0

-- a turned-over link: if the plain search of the readings finds a word of the smaller set, the search on the set gives the negated readings a penalty
-- that is larger by at least the plain search's gap, if it is not refused as 6
pub record DearerTurnedOver (r m : ℕ) (named : List ℕ) (l : List ℤ) (bits word bits' word' : List ℕ) : Type 0 where
  pub dearer : (allowed allowed' : ℕ) → let o = searching r m allowed l bits word in
      let o' = (searching_shortened r m allowed' named (map neg_ℤ l) bits' word').outcome in
      o.number ≡ 0 → Word m (left_of named (rm r m)) o.word → (o'.number ≡ 6 → ⊥) → o.penalty + o.gap ≤ o'.penalty
