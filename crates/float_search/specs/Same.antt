-- What the float search gives (docs/RULES.md, §16).
use Rattle.std.specs.Prelude.{◌≡◌, ◌↔◌, List, [], ◌∷◌, ℕ, zero, suc, ◌^◌, ◌≤◌, ◌<◌, ℤ, nat_abs, length, Float}
use Rattle.std.specs.Float.Ieee as Ieee
use Rattle.words.specs.Kinds.{kinds, dimension, Word}
use Rattle.code.specs.Sound.{largest_reading}
use Rattle.search.specs.Outcome.{Outcome, searching}
use Rattle.search.specs.RunnerUp.{searching_with_runner_up}
use Rattle.search.specs.Demands.{SearchDemand1, SoundSearch, PlusWord, OutcomeDemands, RunnerUpDemand, LargerAllowance}
use Rattle.decoding.specs.Readings.{turns}
use Rattle.decoding.specs.Walk.{start, NeverZero}
use Rattle.float_numbers.specs.Whole.{Represents, RowRepresents, whole_of, wholes}

-- a float that is a whole number in range
pub record FloatReading (x : Float) : Type 0 where
  pub number : ℤ
  pub represents : Represents x number
  pub within : nat_abs number ≤ largest_reading

-- an entry is refused as 4 exactly if it is not one: it has a fraction, is beyond the range, is not a number at all, or is infinite
abbrev pub RefusedEntry : Float → Type 0
RefusedEntry x = (largest_reading < nat_abs (whole_of x)) ↔ (FloatReading x → ⊥)

-- the floats, negated where the word c has 1
abbrev pub turned_floats : List ℕ → List Float → List Float
turned_floats [] f = []
turned_floats (b ∷ c) [] = []
turned_floats (zero ∷ c) (x ∷ f) = x ∷ turned_floats c f
turned_floats (suc b ∷ c) (x ∷ f) = Ieee.neg x ∷ turned_floats c f

-- floats f that are the whole numbers l
pub record SameAnswers (r m : ℕ) (f : List Float) (l : List ℤ) (bits word : List ℕ) : Type 0 where
  -- number by number and byte by byte what the search reports and writes for l, the runner-up too
  pub outcome : (allowed : ℕ) → searching_with_runner_up r m allowed (wholes f) bits word ≡ searching_with_runner_up r m allowed l bits word
  -- negated by a word, they are l negated by it
  pub negated : (c : List ℕ) → RowRepresents (turned_floats c f) (turns c l)

-- what the float search reports and leaves, except for the runner-up
abbrev pub float_searching : ℕ → ℕ → ℕ → List Float → List ℕ → List ℕ → Outcome
float_searching r m allowed f bits word = searching r m allowed (wholes f) bits word

-- demand 3 for two float searches: of the floats f, and of f negated where the word c, of the bits b, has 1; the second may have other buffers
pub record FloatDemand3 (r m : ℕ) (f : List Float) (b c bits word bits' word' : List ℕ) : Type 0 where
  pub sound : SoundSearch r m (wholes (turned_floats c f)) bits' word'
  -- if neither is refused as 6
  pub together : (allowed allowed' : ℕ) → ((float_searching r m allowed f bits word).number ≡ 6 → ⊥)
      → ((float_searching r m allowed' (turned_floats c f) bits' word').number ≡ 6 → ⊥)
      → PlusWord b c (float_searching r m allowed f bits word) (float_searching r m allowed' (turned_floats c f) bits' word')
  -- if the walk meets no value of zero where it chooses: under the same allowance all numbers are equal, 6 and the visits included
  pub same_search : NeverZero m (wholes f) (kinds r m) [] 0 start → (allowed : ℕ)
      → PlusWord b c (float_searching r m allowed f bits word) (float_searching r m allowed (turned_floats c f) bits' word')
      × ((float_searching r m allowed (turned_floats c f) bits' word').visits ≡ (float_searching r m allowed f bits word).visits)

-- the demands, for the numbers that any floats are: their outcome is that of the float search
pub record FloatDemands (r m : ℕ) (f : List Float) (bits word : List ℕ) : Type 0 where
  pub demand_1 : (allowed : ℕ) → SearchDemand1 r m allowed (wholes f) bits word
  pub larger : LargerAllowance r m (wholes f) bits word
  pub runner-up : (allowed : ℕ) → RunnerUpDemand r m allowed (wholes f) bits word
  -- demands 2 and 3, if tests 1 to 4 find nothing
  pub demands : SoundSearch r m (wholes f) bits word → OutcomeDemands r m (wholes f) bits word
  -- demand 3 in floats
  pub demand_3 : SoundSearch r m (wholes f) bits word → (c : List ℕ) (w : Word m (kinds r m) c) (bits' word' : List ℕ)
      → length bits' ≡ dimension r m → length word' ≡ 2 ^ m → FloatDemand3 r m f w.bits c bits word bits' word'
