-- The demands on calls over a shortened set. That they are met is proved in DemandsMet.
use Rattle.std.specs.Prelude.{◌≡◌, List, [], ◌∷◌, ℕ, ◌^◌, ℤ, length}
use Rattle.numbers.specs.Sums.{sum}
use Rattle.words.specs.Kinds.{kinds}
use Rattle.code.specs.declared.Refusal.{Refusal}
use Rattle.code.specs.declared.Refusal.TheVariants.{Named}
use Rattle.code.specs.Sound.{rm}
use Rattle.code.specs.SoundInput.{GoodReadings, SoundFor}
use Rattle.code.specs.Demand1.{Checks, passed, check, check_at, bit_checks, reading_checks_for, Demand1}
use Rattle.named.specs.Named.{GoodRow}
use Rattle.encode.specs.Demands as encoder
use Rattle.quick.specs.Demands as quick
use Rattle.quick.specs.QuickOutcome.{QuickDone}
use Rattle.shortened.specs.Outcome.{left_of, encoding_shortened, inverting_shortened, quick_shortened}

-- ---- Demand 1: the plain calls' checks, with the numbers of information bits that are left, and 12 right after 1
abbrev pub after_first : Refusal → Type 0 → Checks → Checks
after_first why applies passed = check why applies passed
after_first why applies (check first when rest) = check first when (check why applies rest)
after_first why applies (check_at first when rest) = check_at first when (check why applies rest)

-- the row is not a good one
abbrev pub with_row : ℕ → ℕ → List ℕ → Checks → Checks
with_row r m named = after_first Named (GoodRow named (kinds r m) → ⊥)

abbrev pub encode_shortened_checks : ℕ → ℕ → List ℕ → List ℕ → List ℕ → Checks
encode_shortened_checks r m named bits word = with_row r m named (bit_checks r m bits (sum (left_of named (rm r m))) (length word) (2 ^ m) passed)

abbrev pub inverse_shortened_checks : ℕ → ℕ → List ℕ → List ℕ → List ℕ → Checks
inverse_shortened_checks r m named word bits =
    let ks = left_of named (rm r m) in
    with_row r m named (bit_checks r m word (2 ^ m) (length bits) (sum ks) (encoder.frozen_check m ks word))

abbrev pub quick_shortened_checks : ℕ → ℕ → List ℕ → List ℤ → List ℕ → List ℕ → Checks
quick_shortened_checks r m named l bits word = with_row r m named (reading_checks_for (sum (left_of named (rm r m))) r m l (length bits) (length word) passed)

abbrev pub EncodeShortenedDemand1 : ℕ → ℕ → List ℕ → List ℕ → List ℕ → Type 0
EncodeShortenedDemand1 r m named bits word =
    Demand1 (encode_shortened_checks r m named bits word) (word ∷ []) (encoder.view (encoding_shortened r m named bits word))

abbrev pub InverseShortenedDemand1 : ℕ → ℕ → List ℕ → List ℕ → List ℕ → Type 0
InverseShortenedDemand1 r m named word bits =
    Demand1 (inverse_shortened_checks r m named word bits) (bits ∷ []) (encoder.view (inverting_shortened r m named word bits))

abbrev pub QuickShortenedDemand1 : ℕ → ℕ → List ℕ → List ℤ → List ℕ → List ℕ → Type 0
QuickShortenedDemand1 r m named l bits word =
    Demand1 (quick_shortened_checks r m named l bits word) (bits ∷ word ∷ []) (quick.view (quick_shortened r m named l bits word))

-- ---- what a quick reading that is done shows: the row is good, the tests 2 to 4 find nothing, and what is left in the buffers is a word of the smaller
-- set with its bits, which has the penalty that is reported
abbrev pub ShortenedQuickDone : ℕ → ℕ → List ℕ → List ℤ → List ℕ → List ℕ → Type 0
ShortenedQuickDone r m named l bits word =
    let ks = left_of named (rm r m) in
    (quick_shortened r m named l bits word).number ≡ 0
    → GoodRow named (kinds r m) × SoundFor (rm r m) (sum ks) (length bits) (length word) (GoodReadings (rm r m) l)
    × QuickDone m ks l (quick_shortened r m named l bits word)
