-- The demands on the call (docs/RULES.md, §13), over its outcomes and those of the search. That they are met is proved in DemandsMet.
use Rattle.std.specs.Prelude.{◌≡◌, ◌↔◌, List, [], ◌∷◌, ℕ, ◌*◌, ◌^◌, ◌≤◌, ◌<◌, ℤ, length}
use Rattle.words.specs.Kinds.{kinds, dimension, Word}
use Rattle.decoding.specs.Readings.{turns, sizes, Within}
use Rattle.decoding.specs.Best.{least_penalty, gap}
use Rattle.decoding.specs.Walk.{tree}
use Rattle.decoding.specs.Demands.{BestFound, BestTied}
use Rattle.hadamard.specs.Hadamard.{hadamard}
use Rattle.code.specs.Sound.{largest_m, largest_reading}
use Rattle.code.specs.declared.Refusal.TheVariants.{Parameters, Tied}
use Rattle.code.specs.Demand1.{Checks, passed, check, reading_checks, Demand1}
use Rattle.search.specs.Outcome.{Outcome, refused, searching}
use Rattle.search.specs.Demands.{view, SoundSearch, PlusWord}
use Rattle.first_order.specs.Outcome.{without_visits, first_ordering}

-- ---- Demand 1: 1 for any r but 1; then the checks 1 to 4 of RM(1,m), where m = 0 is refused as 1, since r is above it; then 7, which carries the least
-- penalty and no visits. There is no check 6.
abbrev pub first_order_checks : ℕ → ℕ → List ℤ → List ℕ → List ℕ → Checks
first_order_checks r m l bits word =
    let ks = kinds 1 m in
    check Parameters (r ≡ 1 → ⊥)
    (reading_checks 1 m l (length bits) (length word) (check (Tied (least_penalty m ks l) 0) (gap m ks l ≡ 0) passed))

abbrev pub FirstOrderDemand1 : ℕ → ℕ → List ℤ → List ℕ → List ℕ → Type 0
FirstOrderDemand1 r m l bits word =
    Demand1 (first_order_checks r m l bits word) (bits ∷ word ∷ []) (view (first_ordering r m l bits word))

-- ---- Compared with the search, for every input of both
pub record FirstOrderAsSearch (m : ℕ) (l : List ℤ) (bits word : List ℕ) : Type 0 where
  -- with any allowance at least as large as the whole tree the search reports and leaves the same, except for the visits
  pub as_search_lem : (allowed : ℕ) → tree (kinds 1 m) ≤ allowed → first_ordering 1 m l bits word ≡ without_visits (searching 1 m allowed l bits word)
  -- so a tie is refused exactly if the search refuses it, and 6 is never given
  pub never_out : (r : ℕ) → (first_ordering r m l bits word).number ≡ 6 → ⊥
  pub no_visits_lem : (r : ℕ) → (first_ordering r m l bits word).visits ≡ 0

-- ---- Demands 2 and 3, if tests 1 to 4 find nothing
-- o is the call's outcome
pub record FirstOrderDemand2 (m : ℕ) (l : List ℤ) (bits word : List ℕ) (o : Outcome) : Type 0 where
  -- if the gap is not 0: the one word of least penalty, its bits, that penalty and the gap to the next best
  pub answers : (o.number ≡ 0) ↔ (0 < gap m (kinds 1 m) l)
  pub best : o.number ≡ 0 → BestFound m (kinds 1 m) l o.bits o.word o.penalty o.gap
  -- if it is 0: refused as tied, with the least penalty, which two words have
  pub tied : gap m (kinds 1 m) l ≡ 0 → o ≡ refused (Tied (least_penalty m (kinds 1 m) l) 0) bits word
  pub two_have_it : gap m (kinds 1 m) l ≡ 0 → BestTied m (kinds 1 m) l (least_penalty m (kinds 1 m) l)

-- readings negated where the word c, of the bits b, has 1; the second call may have other buffers. Nothing is required of the walk.
pub record FirstOrderDemand3 (m : ℕ) (l : List ℤ) (b c bits word bits' word' : List ℕ) : Type 0 where
  pub sound : SoundSearch 1 m (turns c l) bits' word'
  pub together : PlusWord b c (first_ordering 1 m l bits word) (first_ordering 1 m (turns c l) bits' word')

pub record FirstOrderDemands (m : ℕ) (l : List ℤ) (bits word : List ℕ) : Type 0 where
  pub demand_2 : FirstOrderDemand2 m l bits word (first_ordering 1 m l bits word)
  pub demand_3 : (c : List ℕ) (w : Word m (kinds 1 m) c) (bits' word' : List ℕ) → length bits' ≡ dimension 1 m → length word' ≡ 2 ^ m
      → FirstOrderDemand3 m l w.bits c bits word bits' word'

-- ---- The transform done twice still fits 32 bits, for the longest row of the largest readings: hadamard's bound there is 2,147,418,112.
pub record StillFits : Type 0 where
  pub largest-sum : 2 ^ largest_m * (2 ^ largest_m * largest_reading) ≡ 2147418112
  pub below : 2 ^ largest_m * (2 ^ largest_m * largest_reading) < 2 ^ 31
  -- so the second of two transforms is given sums that fit
  pub fits : (l : List ℤ) → length l ≡ 2 ^ largest_m → Within largest_reading l → sizes (hadamard largest_m l) < 2 ^ 31
