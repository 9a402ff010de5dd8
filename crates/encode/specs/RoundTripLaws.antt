-- There and back over the words of any row of kinds, after the tests 1 to 4: the plain calls cite these laws (RoundTrip), and those on a shortened set.
use Rattle.std.specs.Prelude.{◌≡◌, List, ℕ, ◌^◌, length}
use Rattle.std.proofs.Common.{ap, sym, ◌∙◌, inl, inr, arith}
use Rattle.numbers.specs.Sums.{sum}
use Rattle.words.specs.Bits.{Bits}
use Rattle.words.specs.Word.{transform}
use Rattle.words.specs.Kinds.{fill, encoded, Word}
use Rattle.words.specs.Inverse.{TakenBack, taken, frozen_one, taken_back, LowestFrozenOne}
use Rattle.words.specs.TransformLaws.{length-transform, bits_transform}
use Rattle.words.proofs.FillLaws.{length-fill, bits_fill}
use Rattle.words.proofs.InverseLaws.{taken_encoded, taken_gives, lowest_refused, refused_no_word, no_word_refused}
use Rattle.code.specs.declared.Refusal.TheVariants.{NotAWord}
use Rattle.code.specs.Sound.{Sound, rm}
use Rattle.code.specs.SoundInput.{SoundFor}
use Rattle.encode.specs.Outcome.{Outcome, done, refused, tested, taking_back}
use Rattle.encode.specs.OutcomeLaws.{passes-all, passes}

is_taken : (bits b : List ℕ) (t : TakenBack) → taking_back t bits ≡ done b → t ≡ taken b
is_taken bits b (taken c) e = ap (λ (o : Outcome). taken o.buffer) e
is_taken bits b (frozen_one i) e = absurd (omega (arith, ap (λ (o : Outcome). o.number) e))

is_frozen : (bits : List ℕ) (i : ℕ) (t : TakenBack) → taking_back t bits ≡ refused (NotAWord i) bits → t ≡ frozen_one i
is_frozen bits i (taken c) e = absurd (omega (arith, ap (λ (o : Outcome). o.number) e))
is_frozen bits i (frozen_one j) e = ap (λ (o : Outcome). frozen_one o.place) e

-- a row of n kinds, with this number of information bits expected
module _ (r m expected : ℕ) (ks : List ℕ) (long : length ks ≡ 2 ^ m) (are : Bits ks) (is : sum ks ≡ expected) where
  abbrev encodes : List ℕ → List ℕ → Outcome
  encodes bits word = tested r m bits expected word (2 ^ m) (done (encoded m ks bits))

  abbrev inverts : List ℕ → List ℕ → Outcome
  inverts word bits = tested r m word (2 ^ m) bits expected (taking_back (taken_back m ks word) bits)

  -- what the encoder wrote, the inverse takes back
  pub taken_again : (bits word x room : List ℕ) → encodes bits word ≡ done x → length room ≡ expected → inverts x room ≡ done bits
  taken_again bits word x room e l =
      let rest = done (encoded m ks bits) in
      let w = encoded m ks bits in
      let u = fill ks bits in
      let p = passes r m bits expected word (2 ^ m) rest (inl (ap (λ (o : Outcome). o.number) e)) in
      let wrote : w ≡ x = ap (λ (o : Outcome). o.buffer) (sym (passes-all r m bits expected word (2 ^ m) rest p.0 p.1 p.2 p.3) ∙ e) in
      rw (← wrote)
      (passes-all r m w (2 ^ m) room expected (taking_back (taken_back m ks w) room) p.0
      (length-transform m u (length-fill ks bits ∙ long)) l (bits_transform m u (bits_fill ks bits p.3))
      ∙ ap (λ (t : TakenBack). taking_back t room) (taken_encoded m ks bits long are (p.1 ∙ sym is) p.3))

  module _ (word bits : List ℕ) where
    abbrev back : Outcome
    back = taking_back (taken_back m ks word) bits

    abbrev Given : Type 0
    Given = SoundFor (rm r m) expected (length bits) (length word) (Bits word)

    sound_back : Given → inverts word bits ≡ back
    sound_back p = passes-all r m word (2 ^ m) bits expected back p.sound p.long_word p.long_bits p.entries

    -- what the inverse wrote, the encoder gives again
    pub encoded-again : (b room : List ℕ) → inverts word bits ≡ done b → length room ≡ 2 ^ m → encodes b room ≡ done word
    encoded-again b room e l =
        let p = passes r m word (2 ^ m) bits expected back (inl (ap (λ (o : Outcome). o.number) e)) in
        let all = passes-all r m word (2 ^ m) bits expected back p.0 p.1 p.2 p.3 in
        let g = taken_gives m ks word long are p.1 p.3 b (is_taken bits b (taken_back m ks word) (sym all ∙ e)) in
        passes-all r m b expected room (2 ^ m) (done (encoded m ks b)) p.0 (g.0 ∙ is) l g.1 ∙ ap done g.2

    -- ---- refusal 5, for what the tests 1 to 4 let through
    module _ (i : ℕ) (e : inverts word bits ≡ refused (NotAWord i) bits) where
      five_passed : Sound (rm r m) × (length word ≡ 2 ^ m) × (length bits ≡ expected) × Bits word
      five_passed = passes r m word (2 ^ m) bits expected back (inr (omega (arith, ap (λ (o : Outcome). o.number) e)))

      five_frozen : taken_back m ks word ≡ frozen_one i
      five_frozen =
          let p = five_passed in
          is_frozen bits i (taken_back m ks word) (sym (passes-all r m word (2 ^ m) bits expected back p.0 p.1 p.2 p.3) ∙ e)

      -- i is the lowest frozen index at which the word's row is 1
      pub lowest_frozen : LowestFrozenOne ks (transform m word) i
      lowest_frozen = lowest_refused m ks word long are five_passed.1 five_passed.3 i five_frozen

      -- no information bits give the word
      pub no_bits_give : Word m ks word → ⊥
      no_bits_give = refused_no_word m ks word long are five_passed.1 five_passed.3 i five_frozen

    -- and conversely: what no information bits give is refused as 5
    pub refused_five : Given → (Word m ks word → ⊥) → (i : ℕ) × (inverts word bits ≡ refused (NotAWord i) bits)
    refused_five p none =
        let f = no_word_refused m ks word long are p.long_word p.entries none in
        (f.0, sound_back p ∙ ap (λ (t : TakenBack). taking_back t bits) f.1)
