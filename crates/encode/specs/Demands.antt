-- Demand 1 of `encode` and of `inverse`: the checks 1 to 4, and 5 for `inverse`. That it is met is proved in DemandsMet.
use Rattle.std.specs.Prelude.{List, [], ◌∷◌, ℕ, ◌^◌, length}
use Rattle.words.specs.Word.{transform}
use Rattle.words.specs.Kinds.{kinds, dimension}
use Rattle.words.specs.Inverse.{LowestFrozenOne}
use Rattle.code.specs.declared.Refusal.TheVariants.{NotAWord}
use Rattle.code.specs.Demand1.{View, Checks, passed, check_at, bit_checks, Demand1}
use Rattle.encode.specs.Outcome.{Outcome, encoding, inverting}

abbrev pub view : Outcome → View
view o = record { number = o.number; place = o.place; penalty = 0; gap = 0; visits = 0; buffers = o.buffer ∷ [] }

abbrev pub encode_checks : ℕ → ℕ → List ℕ → List ℕ → Checks
encode_checks r m bits word = bit_checks r m bits (dimension r m) (length word) (2 ^ m) passed

-- some frozen index of the row u that the word comes from is 1
abbrev pub frozen_check : ℕ → List ℕ → List ℕ → Checks
frozen_check m ks word = check_at NotAWord (LowestFrozenOne ks (transform m word)) passed

abbrev pub inverse_checks : ℕ → ℕ → List ℕ → List ℕ → Checks
inverse_checks r m word bits = bit_checks r m word (2 ^ m) (length bits) (dimension r m) (frozen_check m (kinds r m) word)

abbrev pub EncodeDemand1 : ℕ → ℕ → List ℕ → List ℕ → Type 0
EncodeDemand1 r m bits word = Demand1 (encode_checks r m bits word) (word ∷ []) (view (encoding r m bits word))

abbrev pub InverseDemand1 : ℕ → ℕ → List ℕ → List ℕ → Type 0
InverseDemand1 r m word bits = Demand1 (inverse_checks r m word bits) (bits ∷ []) (view (inverting r m word bits))
