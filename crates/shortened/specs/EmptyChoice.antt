-- An empty choice, a row of n zero bytes, gives what the plain calls give: every number and every byte. The plain calls are those over the kinds of RM(r,m).
use Rattle.std.specs.Prelude.{◌≡◌, refl, ℕ, ◌^◌, ℤ, length, replicate}
use Rattle.std.proofs.Math.Path.{ap, sym}
use Rattle.std.proofs.Common.{◌∙◌}
use mathlib.Core.List.{List}
use Rattle.numbers.specs.Sums.{sum}
use Rattle.words.specs.Kinds.{kinds, dimension, encoded}
use Rattle.words.proofs.KindLaws.{sum-kinds}
use Rattle.words.specs.Inverse.{taken_back}
use Rattle.code.specs.declared.Code.{Code}
use Rattle.code.specs.declared.Refusal.TheVariants.{Parameters}
use Rattle.code.specs.Sound.{Sound, rm}
use Rattle.code.specs.SoundLaws.{made_good}
use Rattle.code.specs.SoundInput.{dimension_of}
use Rattle.code.specs.Admitted.{admitted_by, admitted}
use Rattle.code.specs.AdmittedLaws.{allows, refuses, decided, refused_parameters, tested-made}
use Rattle.named.specs.NamedLaws.{left-all, empty_good, bad_parameters, bad-row, sound_row, row_decided}
use Rattle.encode.specs.Outcome as encoder
use Rattle.encode.specs.OutcomeLaws.{tested_parameters}
use Rattle.quick.specs.Outcome as reader
use Rattle.quick.specs.OutcomeLaws.{reading-refused, reading-done}
use Rattle.shortened.specs.Outcome.{encoding_over, inverting_over, quick_over, encoding_shortened, inverting_shortened, quick_shortened}
use Rattle.shortened.specs.OutcomeLaws.{encoding-refused, inverting-refused, quick_refused, over-refused}
use Rattle.shortened.specs.OutcomeLaws.{encoding-left, inverting-left, quick-left, over_done}

module _ (r m : ℕ) where
  -- ---- the plain calls
  pub plain_encoding : (bits word : List ℕ) → encoding_over (kinds r m) (rm r m) bits word ≡ encoder.encoding r m bits word
  unfolding encoder.encoding
  plain_encoding bits word = ap (λ (k : ℕ). encoder.tested r m bits k word (2 ^ m) (encoder.done (encoded m (kinds r m) bits))) (sum-kinds r m)

  pub plain_inverting : (word bits : List ℕ) → inverting_over (kinds r m) (rm r m) word bits ≡ encoder.inverting r m word bits
  unfolding encoder.inverting
  plain_inverting word bits =
      ap (λ (k : ℕ). encoder.tested r m word (2 ^ m) bits k (encoder.taking_back (taken_back m (kinds r m) word) bits)) (sum-kinds r m)

  pub plain_quick : Sound (rm r m) → (l : List ℤ) (bits word : List ℕ) → quick_over (kinds r m) (rm r m) l bits word ≡ reader.quick_reading r m l bits word
  plain_quick s l bits word =
      let good = made_good r m s.m_small s.r_small in
      let same : admitted_by (rm r m) (sum (kinds r m)) l (length bits) (length word) ≡ admitted r m l (length bits) (length word) =
      ap (λ (k : ℕ). admitted_by (rm r m) k l (length bits) (length word)) (sum-kinds r m)
      ∙ tested-made dimension_of r m l (length bits) (length word) (rm r m) good in
      elim (decided r m l (length bits) (length word)) [
        | allows c e is a ↦ sym (over_done (kinds r m) (rm r m) l bits word c (e ∙ sym same))
            ∙ ap (λ (d : Code). reader.reading_over d.m (kinds r m) l) is
            ∙ ap (λ (d : Code). reader.reading_by d l) (sym is)
            ∙ reading-done r m l bits word c (reader.reading_by c l) e refl
        | refuses why e h ↦ sym (over-refused (kinds r m) (rm r m) l bits word why (e ∙ sym same)) ∙ reading-refused r m l bits word why e
      ]

  -- ---- with no index named
  abbrev none : List ℕ
  none = replicate (2 ^ m) 0

  pub empty_encoding : (bits word : List ℕ) → encoding_shortened r m none bits word ≡ encoder.encoding r m bits word
  unfolding encoder.encoding
  empty_encoding bits word =
      elim (row_decided r m none) [
        | bad_parameters b e ↦ sym (encoding-refused r m none Parameters e bits word)
            ∙ tested_parameters r m bits (dimension r m) word (2 ^ m) (encoder.done (encoded m (kinds r m) bits)) b
        | bad-row s bad e ↦ absurd (bad (empty_good r m))
        | sound_row s g e ↦ sym (encoding-left r m none (rm r m) e bits word)
            ∙ ap (λ (ks : List ℕ). encoding_over ks (rm r m) bits word) (left-all (2 ^ m) (kinds r m))
            ∙ plain_encoding bits word
      ]

  pub empty_inverting : (word bits : List ℕ) → inverting_shortened r m none word bits ≡ encoder.inverting r m word bits
  unfolding encoder.inverting
  empty_inverting word bits =
      elim (row_decided r m none) [
        | bad_parameters b e ↦ sym (inverting-refused r m none Parameters e word bits)
            ∙ tested_parameters r m word (2 ^ m) bits (dimension r m) (encoder.taking_back (taken_back m (kinds r m) word) bits) b
        | bad-row s bad e ↦ absurd (bad (empty_good r m))
        | sound_row s g e ↦ sym (inverting-left r m none (rm r m) e word bits)
            ∙ ap (λ (ks : List ℕ). inverting_over ks (rm r m) word bits) (left-all (2 ^ m) (kinds r m))
            ∙ plain_inverting word bits
      ]

  pub empty_quick : (l : List ℤ) (bits word : List ℕ) → quick_shortened r m none l bits word ≡ reader.quick_reading r m l bits word
  empty_quick l bits word =
      elim (row_decided r m none) [
        | bad_parameters b e ↦ sym (quick_refused r m none Parameters e l bits word)
            ∙ reading-refused r m l bits word Parameters (refused_parameters dimension_of r m l (length bits) (length word) b)
        | bad-row s bad e ↦ absurd (bad (empty_good r m))
        | sound_row s g e ↦ sym (quick-left r m none (rm r m) e l bits word)
            ∙ ap (λ (ks : List ℕ). quick_over ks (rm r m) l bits word) (left-all (2 ^ m) (kinds r m))
            ∙ plain_quick s l bits word
      ]
