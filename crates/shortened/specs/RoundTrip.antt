-- Theorems over the outcomes on a shortened set, as for the plain calls: the inverse gives back what the encoder was given, the encoder what the inverse was
-- given, and the inverse refuses as 5 exactly what no information bits of the smaller set give.
use Rattle.std.specs.Prelude.{◌≡◌, refl, List, ℕ, ◌^◌, length, Ok, Err}
use Rattle.std.proofs.Common.{ap, sym, ◌∙◌, arith}
use Rattle.numbers.specs.Sums.{sum}
use Rattle.words.specs.Bits.{Bits}
use Rattle.words.specs.Word.{transform}
use Rattle.words.specs.Kinds.{kinds, Word}
use Rattle.words.specs.Inverse.{LowestFrozenOne}
use Rattle.code.specs.declared.Refusal.{Refusal}
use Rattle.code.specs.declared.Refusal.TheVariants.{Parameters, NotAWord, Named}
use Rattle.code.specs.Sound.{rm, number_of}
use Rattle.code.specs.SoundInput.{SoundFor}
use Rattle.named.specs.Named.{GoodRow, row_admitted}
use Rattle.named.specs.NamedLaws.{bad_parameters, bad-row, sound_row, row_decided}
use Rattle.encode.specs.Outcome as encoder
use Rattle.encode.specs.RoundTripLaws.{taken_again, encoded-again, lowest_frozen, no_bits_give, refused_five}
use Rattle.shortened.specs.Outcome.{left_of, encoding_shortened, inverting_shortened}
use Rattle.shortened.specs.WorkLaws.{long_left, are_left}
use Rattle.shortened.specs.OutcomeLaws.{encoding-refused, inverting-refused, encoding-left, inverting-left, good_allowed}

module _ (r m : ℕ) (named : List ℕ) where
  abbrev ks : List ℕ
  ks = left_of named (rm r m)

  -- a call with another number than 1 and 12 has an allowed row
  row_let : (n : ℕ) → ((why : Refusal) → Err why ≡ row_admitted r m named → number_of why ≡ n) → (n ≡ 1 → ⊥) → (n ≡ 12 → ⊥)
      → Ok (rm r m) ≡ row_admitted r m named
  row_let n shows one twelve =
      elim (row_decided r m named) [
        | bad_parameters b e ↦ absurd (one (sym (shows Parameters e)))
        | bad-row s bad e ↦ absurd (twelve (sym (shows Named e)))
        | sound_row s g e ↦ e
      ]

  encoding_let : (bits word x : List ℕ) → encoding_shortened r m named bits word ≡ encoder.done x → Ok (rm r m) ≡ row_admitted r m named
  encoding_let bits word x e =
      row_let 0 (λ why f. ap (λ (o : encoder.Outcome). o.number) (encoding-refused r m named why f bits word ∙ e)) (λ z. omega arith) (λ z. omega arith)

  inverting_let : (word bits : List ℕ) (o : encoder.Outcome) → inverting_shortened r m named word bits ≡ o → (o.number ≡ 1 → ⊥) → (o.number ≡ 12 → ⊥)
      → Ok (rm r m) ≡ row_admitted r m named
  inverting_let word bits o e = row_let o.number (λ why f. ap (λ (p : encoder.Outcome). p.number) (inverting-refused r m named why f word bits ∙ e))

  -- ---- there and back
  -- what `encode_shortened` wrote, `inverse_shortened` takes back
  pub shortened_inverse_of_encode : (bits word x room : List ℕ) → encoding_shortened r m named bits word ≡ encoder.done x → length room ≡ sum ks
      → inverting_shortened r m named x room ≡ encoder.done bits
  shortened_inverse_of_encode bits word x room e l =
      let a = encoding_let bits word x e in
      sym (inverting-left r m named (rm r m) a x room)
      ∙ taken_again r m (sum ks) ks (long_left named (rm r m)) (are_left named (rm r m)) refl bits word x room
      (encoding-left r m named (rm r m) a bits word ∙ e) l

  -- what `inverse_shortened` wrote, `encode_shortened` gives again
  pub shortened_encode_of_inverse : (word bits b room : List ℕ) → inverting_shortened r m named word bits ≡ encoder.done b → length room ≡ 2 ^ m
      → encoding_shortened r m named b room ≡ encoder.done word
  shortened_encode_of_inverse word bits b room e l =
      let a = inverting_let word bits (encoder.done b) e (λ z. omega arith) (λ z. omega arith) in
      sym (encoding-left r m named (rm r m) a b room)
      ∙ encoded-again r m (sum ks) ks (long_left named (rm r m)) (are_left named (rm r m)) refl word bits b room
      (inverting-left r m named (rm r m) a word bits ∙ e) l

  -- ---- refusal 5, for what the tests 1, 12 and 2 to 4 let through
  module _ (word bits : List ℕ) (i : ℕ) (e : inverting_shortened r m named word bits ≡ encoder.refused (NotAWord i) bits) where
    five_left : Ok (rm r m) ≡ row_admitted r m named
    five_left = inverting_let word bits (encoder.refused (NotAWord i) bits) e (λ z. omega arith) (λ z. omega arith)

    -- i is the lowest index, frozen or named, at which the word's row is 1
    pub shortened_five_lowest : LowestFrozenOne ks (transform m word) i
    shortened_five_lowest =
        lowest_frozen r m (sum ks) ks (long_left named (rm r m)) (are_left named (rm r m)) refl word bits i
        (inverting-left r m named (rm r m) five_left word bits ∙ e)

    -- no information bits give the word
    pub shortened_five_no_word : Word m ks word → ⊥
    shortened_five_no_word =
        no_bits_give r m (sum ks) ks (long_left named (rm r m)) (are_left named (rm r m)) refl word bits i
        (inverting-left r m named (rm r m) five_left word bits ∙ e)

  -- and conversely: what no information bits give is refused as 5
  pub shortened_no_word_five : GoodRow named (kinds r m) → (word bits : List ℕ) → SoundFor (rm r m) (sum ks) (length bits) (length word) (Bits word)
      → (Word m ks word → ⊥) → (i : ℕ) × (inverting_shortened r m named word bits ≡ encoder.refused (NotAWord i) bits)
  shortened_no_word_five g word bits p none =
      let f = refused_five r m (sum ks) ks (long_left named (rm r m)) (are_left named (rm r m)) refl word bits p none in
      (f.0, sym (inverting-left r m named (rm r m) (good_allowed r m named p.sound g) word bits) ∙ f.1)
