-- Demand 1 of `quick`: the checks 1 to 4. That it is met is proved in DemandsMet.
use Rattle.std.specs.Prelude.{List, [], ◌∷◌, ℕ, ℤ, length}
use Rattle.code.specs.Demand1.{View, Checks, passed, reading_checks, Demand1}
use Rattle.quick.specs.Outcome.{Outcome, quick_reading}

abbrev pub view : Outcome → View
view o = record { number = o.number; place = o.place; penalty = o.penalty; gap = 0; visits = 0; buffers = o.bits ∷ o.word ∷ [] }

abbrev pub quick_checks : ℕ → ℕ → List ℤ → List ℕ → List ℕ → Checks
quick_checks r m l bits word = reading_checks r m l (length bits) (length word) passed

abbrev pub QuickDemand1 : ℕ → ℕ → List ℤ → List ℕ → List ℕ → Type 0
QuickDemand1 r m l bits word = Demand1 (quick_checks r m l bits word) (bits ∷ word ∷ []) (view (quick_reading r m l bits word))
