-- No second answer and no second contents of the lent buffers meet the promise of a call on a shortened set.
use Rattle.std.specs.Prelude.{◌≡◌, List, ℕ, ◌^◌, ◌<◌, ℤ, length, Result}
use Rattle.std.proofs.Common.{sym, ◌∙◌, arith}
use Rattle.numbers.specs.Sums.{sum}
use Rattle.words.specs.Kinds.{encoded}
use Rattle.words.specs.Inverse.{taken_back}
use Rattle.code.specs.declared.Refusal.TheVariants.{Parameters, Named}
use Rattle.code.specs.Sound.{Sound, rm}
use Rattle.code.specs.SoundLaws.{made_good}
use Rattle.code.specs.AdmittedLaws.{allows, refuses, decided_for, tested-made}
use Rattle.named.specs.NamedLaws.{bad_parameters, bad-row, sound_row, row_decided}
use Rattle.encode.specs.Outcome as encoder
use Rattle.encode.specs.OutcomeLaws.{tested_small}
use Rattle.encode.specs.OnlyOutcome as encoders
use Rattle.quick.specs.Outcome as reader
use Rattle.quick.proofs.OnlyOutcome as readers
use Rattle.shortened.specs.Outcome.{left_of, quick_over, encoding_shortened, inverting_shortened, quick_shortened}
use Rattle.shortened.specs.OutcomeLaws.{encoding-refused, inverting-refused, quick_refused, over-refused}
use Rattle.shortened.specs.OutcomeLaws.{encoding-left, inverting-left, quick-left, over_done}
use Rattle.code.specs.declared.Refusal.{Refusal}

-- a number below 6, or 12
abbrev Plain : ℕ → Type 0
Plain n = (n ≡ 6 → ⊥) × (n ≡ 7 → ⊥)

small_plain : {n : ℕ} → n < 6 → Plain n
small_plain h = (λ k. omega arith, λ k. omega arith)

module _ (r m : ℕ) (named : List ℕ) where
  encoding_plain : (bits word : List ℕ) → Plain (encoding_shortened r m named bits word).number
  encoding_plain bits word =
      elim (row_decided r m named) [
        | bad_parameters b e ↦ rw (← encoding-refused r m named Parameters e bits word) (small_plain (omega arith))
        | bad-row s b e ↦ rw (← encoding-refused r m named Named e bits word) (λ k. omega arith, λ k. omega arith)
        | sound_row s g e ↦
            let ks = left_of named (rm r m) in
            rw (← encoding-left r m named (rm r m) e bits word)
            (small_plain (tested_small r m bits (sum ks) word (2 ^ m) (encoder.done (encoded m ks bits)) (omega arith)))
      ]

  inverting_plain : (word bits : List ℕ) → Plain (inverting_shortened r m named word bits).number
  inverting_plain word bits =
      elim (row_decided r m named) [
        | bad_parameters b e ↦ rw (← inverting-refused r m named Parameters e word bits) (small_plain (omega arith))
        | bad-row s b e ↦ rw (← inverting-refused r m named Named e word bits) (λ k. omega arith, λ k. omega arith)
        | sound_row s g e ↦
            let t = taken_back m (left_of named (rm r m)) word in
            rw (← inverting-left r m named (rm r m) e word bits)
            (small_plain (tested_small r m word (2 ^ m) bits (sum (left_of named (rm r m))) (encoder.taking_back t bits) (encoders.taking_small t bits)))
      ]

  over_small : (ks : List ℕ) (l : List ℤ) (bits word : List ℕ) → Sound (rm r m) → (quick_over ks (rm r m) l bits word).number < 6
  over_small ks l bits word s =
      let same = tested-made (λ c. sum ks) r m l (length bits) (length word) (rm r m) (made_good r m s.m_small s.r_small) in
      elim (decided_for (λ c. sum ks) r m l (length bits) (length word)) [
        | allows c e is a ↦ rw (← over_done ks (rm r m) l bits word c (e ∙ sym same)) (omega arith)
        | refuses why e h ↦ rw (← over-refused ks (rm r m) l bits word why (e ∙ sym same)) (omega arith)
      ]

  quick_plain : (l : List ℤ) (bits word : List ℕ) → Plain (quick_shortened r m named l bits word).number
  quick_plain l bits word =
      elim (row_decided r m named) [
        | bad_parameters b e ↦ rw (← quick_refused r m named Parameters e l bits word) (small_plain (omega arith))
        | bad-row s b e ↦ rw (← quick_refused r m named Named e l bits word) (λ k. omega arith, λ k. omega arith)
        | sound_row s g e ↦ rw (← quick-left r m named (rm r m) e l bits word) (small_plain (over_small (left_of named (rm r m)) l bits word s))
      ]

  module _ (a b : Result (Unit {0}) Refusal) (x y : List ℕ) where
    pub encode_only : (bits word : List ℕ)
        → encoder.outcome_of a x ≡ encoding_shortened r m named bits word → encoder.outcome_of b y ≡ encoding_shortened r m named bits word
        → (a ≡ b) × (x ≡ y)
    encode_only bits word =
        let p = encoding_plain bits word in
        encoders.outcome_only (encoding_shortened r m named bits word) p.0 p.1 a b x y

    pub inverse_only : (word bits : List ℕ) → encoder.outcome_of a x ≡ inverting_shortened r m named word bits
        → encoder.outcome_of b y ≡ inverting_shortened r m named word bits → (a ≡ b) × (x ≡ y)
    inverse_only word bits =
        let p = inverting_plain word bits in
        encoders.outcome_only (inverting_shortened r m named word bits) p.0 p.1 a b x y

  pub quick_only : (l : List ℤ) (bits word : List ℕ) (a b : Result ℕ Refusal) (x y v w : List ℕ)
      → reader.outcome_of a x y ≡ quick_shortened r m named l bits word → reader.outcome_of b v w ≡ quick_shortened r m named l bits word
      → (a ≡ b) × (x ≡ v) × (y ≡ w)
  quick_only l bits word =
      let p = quick_plain l bits word in
      readers.outcome_only (quick_shortened r m named l bits word) p.0 p.1
