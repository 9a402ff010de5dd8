-- What the calls on a shortened set report and leave, for every input (docs/RULES.md, §15): refused as 1 or 12 by the row's tests, else as the
-- plain calls do, over the words of the kinds that are left.
use Rattle.std.specs.Prelude.{List, ℕ, ◌^◌, ℤ, length}
use Rattle.numbers.specs.Sums.{sum}
use Rattle.words.specs.Kinds.{kinds, encoded}
use Rattle.words.specs.Inverse.{taken_back}
use Rattle.code.specs.declared.Code.{Code}
use Rattle.code.specs.Admitted.{admitted_by, after_test}
use Rattle.named.specs.Named.{left, row_admitted}
use Rattle.encode.specs.Outcome as encoder
use Rattle.quick.specs.Outcome as reader

-- the kinds that the row leaves of a code's
abbrev pub left_of : List ℕ → Code → List ℕ
left_of named c = left named (kinds c.r c.m)

-- ---- over the words of a row of kinds: there are as many information bits as indices that carry them
abbrev pub encoding_over : List ℕ → Code → List ℕ → List ℕ → encoder.Outcome
encoding_over ks c bits word = encoder.tested c.r c.m bits (sum ks) word (2 ^ c.m) (encoder.done (encoded c.m ks bits))

abbrev pub inverting_over : List ℕ → Code → List ℕ → List ℕ → encoder.Outcome
inverting_over ks c word bits = encoder.tested c.r c.m word (2 ^ c.m) bits (sum ks) (encoder.taking_back (taken_back c.m ks word) bits)

abbrev pub quick_over : List ℕ → Code → List ℤ → List ℕ → List ℕ → reader.Outcome
quick_over ks c l bits word =
    after_test (admitted_by c (sum ks) l (length bits) (length word)) (λ why. reader.refused why bits word) (λ d. reader.reading_over d.m ks l)

-- ---- the calls: from r, m, the row, the input, and the lent buffers
unfoldable pub encoding_shortened : ℕ → ℕ → List ℕ → List ℕ → List ℕ → encoder.Outcome
encoding_shortened r m named bits word =
    after_test (row_admitted r m named) (λ why. encoder.refused why word) (λ c. encoding_over (left_of named c) c bits word)

unfoldable pub inverting_shortened : ℕ → ℕ → List ℕ → List ℕ → List ℕ → encoder.Outcome
inverting_shortened r m named word bits =
    after_test (row_admitted r m named) (λ why. encoder.refused why bits) (λ c. inverting_over (left_of named c) c word bits)

unfoldable pub quick_shortened : ℕ → ℕ → List ℕ → List ℤ → List ℕ → List ℕ → reader.Outcome
quick_shortened r m named l bits word =
    after_test (row_admitted r m named) (λ why. reader.refused why bits word) (λ c. quick_over (left_of named c) c l bits word)
