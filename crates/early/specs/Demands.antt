-- The demands on the early answer (docs/RULES.md, §10), over its outcomes and those of the search. That they are met is proved in DemandsMet.
use Rattle.std.specs.Prelude.{◌≡◌, true, false, List, [], ◌∷◌, ℕ, ◌≤◌, ◌<◌, ℤ, length}
use Rattle.words.specs.Kinds.{kinds}
use Rattle.decoding.specs.Readings.{turns}
use Rattle.decoding.specs.Best.{least_penalty, gap}
use Rattle.decoding.specs.Walk.{start, needed, NeverZero}
use Rattle.decoding.specs.Demands.{BestFound}
use Rattle.sure.specs.Test.{passes}
use Rattle.code.specs.declared.Refusal.TheVariants.{OutOfVisits, Tied}
use Rattle.code.specs.Demand1.{Checks, passed, check, reading_checks, Demand1}
use Rattle.search.specs.Outcome.{Outcome}
use Rattle.search.specs.Demands.{view, SoundSearch, PlusWord}
use Rattle.early.specs.Outcome.{word_only, answering}

-- ---- Demand 1: the checks 1 to 4, then, if the test did not pass, 6 and 7 as the search makes them
abbrev pub late_checks : ℕ → ℕ → ℕ → List ℤ → Checks
late_checks r m allowed l =
    let ks = kinds r m in
    check (OutOfVisits allowed) ((passes r m ks l ≡ false) × (allowed < needed m ks l))
    (check (Tied (least_penalty m ks l) (needed m ks l)) ((passes r m ks l ≡ false) × (gap m ks l ≡ 0)) passed)

abbrev pub early_checks : ℕ → ℕ → ℕ → List ℤ → List ℕ → List ℕ → Checks
early_checks r m allowed l bits word = reading_checks r m l (length bits) (length word) (late_checks r m allowed l)

abbrev pub EarlyDemand1 : ℕ → ℕ → ℕ → List ℤ → List ℕ → List ℕ → Type 0
EarlyDemand1 r m allowed l bits word = Demand1 (early_checks r m allowed l bits word) (bits ∷ word ∷ []) (view (answering r m allowed l bits word))

-- ---- Demand 2, beside the search
-- o is the outcome of the call, s that of the search for the same arguments, whatever they are
pub record EarlyAnswer (r m : ℕ) (l : List ℤ) (o s : Outcome) : Type 0 where
  -- Whatever it answers is demand 2's best word with its bits and least penalty, also where the walk would have run out.
  pub best : o.number ≡ 0 → BestFound m (kinds r m) l o.bits o.word o.penalty (gap m (kinds r m) l)
  -- Where the search answers, both give the same word, bits and penalty.
  pub as_search_lem : s.number ≡ 0 → o ≡ word_only s
  -- It refuses only where the search refuses, and exactly as the search does,
  pub refused-as_search : (o.number ≡ 0 → ⊥) → o ≡ s
  -- 6 and 7 only if the test did not pass.
  pub not-passed : 5 < o.number → passes r m (kinds r m) l ≡ false

-- ---- A larger allowance changes no answer and no refusal except 6, as with the search
abbrev pub EarlyLargerAllowance : ℕ → ℕ → List ℤ → List ℕ → List ℕ → Type 0
EarlyLargerAllowance r m l bits word = (allowed more : ℕ) → allowed ≤ more
    → ((answering r m allowed l bits word).number ≡ 6 → ⊥) → answering r m more l bits word ≡ answering r m allowed l bits word

-- ---- Demand 3
-- readings negated where the word c, of the bits b, has 1; the second call may have other buffers
pub record EarlyDemand3 (r m : ℕ) (l : List ℤ) (b c bits word bits' word' : List ℕ) : Type 0 where
  pub sound : SoundSearch r m (turns c l) bits' word'
  -- both answer without a walk, or neither does
  pub same_way : passes r m (kinds r m) (turns c l) ≡ passes r m (kinds r m) l
  -- without a walk, under any two allowances
  pub at_once : passes r m (kinds r m) l ≡ true → (allowed allowed' : ℕ)
      → PlusWord b c (answering r m allowed l bits word) (answering r m allowed' (turns c l) bits' word')
  -- if neither is refused as 6
  pub together : (allowed allowed' : ℕ)
      → ((answering r m allowed l bits word).number ≡ 6 → ⊥) → ((answering r m allowed' (turns c l) bits' word').number ≡ 6 → ⊥)
      → PlusWord b c (answering r m allowed l bits word) (answering r m allowed' (turns c l) bits' word')
  -- if the walk meets no value of zero where it chooses: under the same allowance all numbers are equal, 6 and the visits included
  pub same_answer : NeverZero m l (kinds r m) [] 0 start → (allowed : ℕ)
      → PlusWord b c (answering r m allowed l bits word) (answering r m allowed (turns c l) bits' word')
      × ((answering r m allowed (turns c l) bits' word').visits ≡ (answering r m allowed l bits word).visits)
