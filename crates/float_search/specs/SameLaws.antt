-- The float search gives what the search gives: for floats that are whole numbers, and its demands for any floats.
use Rattle.std.specs.Prelude.{◌≡◌, List, [], ◌∷◌, ℕ, zero, suc, ◌^◌, ◌≤◌, ℤ, nat_abs, length, Float}
use Rattle.std.proofs.Common.{ap, ⊎_elim, arith}
use Rattle.numbers.specs.Choice.{lt_or_le}
use Rattle.code.specs.Sound.{largest_reading}
use Rattle.words.specs.Kinds.{kinds, dimension, Word}
use Rattle.decoding.specs.Readings.{turns, Within}
use Rattle.search.specs.RunnerUp.{searching_with_runner_up}
use Rattle.search.specs.Demands.{SoundSearch}
use Rattle.search.proofs.Demand1Met.{search_demand_1}
use Rattle.search.specs.DemandsMet.{larger_allowance, outcome_demands}
use Rattle.search.proofs.RunnerUpMet.{runner_up_demand}
use Rattle.float_numbers.specs.Whole.{RowRepresents, whole_of, wholes}
use Rattle.float_numbers.proofs.WholeLaws.{represents_small, whole_of-is, neg_represents}
use Rattle.float_numbers.proofs.WholesLaws.{wholes_represented}
use Rattle.float_search.specs.Same.{FloatReading, RefusedEntry, turned_floats, SameAnswers, FloatDemand3, FloatDemands}

-- ---- an entry
reading_within : (x : Float) → FloatReading x → nat_abs (whole_of x) ≤ largest_reading
reading_within x r = rw (whole_of-is x r.number r.represents) r.within

within_reading : (x : Float) → nat_abs (whole_of x) ≤ largest_reading → FloatReading x
within_reading x h = record { number = whole_of x; represents = represents_small x (omega arith); within = h }

pub refused-entry : (x : Float) → RefusedEntry x
refused-entry x = (
  λ h r. omega (arith, reading_within x r),
  λ n. ⊎_elim (λ h. h) (λ h. absurd (n (within_reading x h))) (lt_or_le largest_reading (nat_abs (whole_of x))),
)

-- ---- rows
turned_represents : (c : List ℕ) (f : List Float) (l : List ℤ) → RowRepresents f l → RowRepresents (turned_floats c f) (turns c l)
turned_represents [] f l h = tt
turned_represents (b ∷ c) [] [] h = tt
turned_represents (b ∷ c) [] (z ∷ l) h = absurd h
turned_represents (b ∷ c) (x ∷ f) [] h = absurd h
turned_represents (zero ∷ c) (x ∷ f) (z ∷ l) h = (h.0, turned_represents c f l h.1)
turned_represents (suc b ∷ c) (x ∷ f) (z ∷ l) h = (neg_represents h.0, turned_represents c f l h.1)

pub same_answers : (r m : ℕ) (f : List Float) (l : List ℤ) (bits word : List ℕ) → RowRepresents f l → SameAnswers r m f l bits word
same_answers r m f l bits word h =
    record {
      outcome = λ allowed. ap (λ (k : List ℤ). searching_with_runner_up r m allowed k bits word) (wholes_represented f l h);
      negated = λ c. turned_represents c f l h;
    }

-- floats whose numbers are in range are those numbers, and negated by a word they are the numbers negated by it
represents_wholes : (f : List Float) → Within largest_reading (wholes f) → RowRepresents f (wholes f)
represents_wholes [] h = tt
represents_wholes (x ∷ f) h = (represents_small x (omega (arith, h 0)), represents_wholes f (λ i. h (suc i)))

wholes-turned : (c : List ℕ) (f : List Float) → Within largest_reading (wholes f) → wholes (turned_floats c f) ≡ turns c (wholes f)
wholes-turned c f h = wholes_represented (turned_floats c f) (turns c (wholes f)) (turned_represents c f (wholes f) (represents_wholes f h))

-- ---- the demands
float_demand_3 : (r m : ℕ) (f : List Float) (bits word : List ℕ) → SoundSearch r m (wholes f) bits word → (c : List ℕ) (w : Word m (kinds r m) c)
    (bits' word' : List ℕ) → length bits' ≡ dimension r m → length word' ≡ 2 ^ m → FloatDemand3 r m f w.bits c bits word bits' word'
float_demand_3 r m f bits word s c w bits' word' long_bits long_word =
    let d = (outcome_demands {r = r} {m = m} {l = wholes f} bits word s).demand_3 c w bits' word' long_bits long_word in
    let same = wholes-turned c f s.entries.within in
    record {
      sound = rw same d.sound;
      together = λ allowed allowed'. rw same (d.together allowed allowed');
      same_search = λ never allowed. rw same (d.same_search never allowed);
    }

pub float_demands : (r m : ℕ) (f : List Float) (bits word : List ℕ) → FloatDemands r m f bits word
float_demands r m f bits word =
    record {
      demand_1 = λ allowed. search_demand_1 r m allowed (wholes f) bits word;
      larger = larger_allowance r m (wholes f) bits word;
      runner-up = λ allowed. runner_up_demand r m allowed (wholes f) bits word;
      demands = λ s. outcome_demands {r = r} {m = m} {l = wholes f} bits word s;
      demand_3 = float_demand_3 r m f bits word;
    }
