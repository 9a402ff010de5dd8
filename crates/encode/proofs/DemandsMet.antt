-- The outcomes of `encode` and `inverse` meet demand 1.
use Rattle.std.specs.Prelude.{◌≡◌, refl, ◌⊎◌, List, [], ◌∷◌, ℕ, ◌^◌, length, Ok}
use Rattle.std.proofs.Common.{ap, sym, inl, inr, ⊎_elim, arith, lt-ltb, le-ltb}
use Rattle.std.proofs.Math.Decide.{ℕ_discrete}
use Rattle.numbers.specs.Choice.{lt_or_le}
use Rattle.words.specs.Bits.{Bits}
use Rattle.words.specs.Word.{transform}
use Rattle.words.specs.Kinds.{kinds, dimension, pick, encoded}
use Rattle.words.proofs.KindLaws.{length-kinds, bits_kinds}
use Rattle.words.specs.Inverse.{taken, frozen_one, first_frozen_one, taken_back}
use Rattle.words.proofs.InverseLaws.{refused_lowest, lowest_refused}
use Rattle.code.specs.Sound.{Sound, made, rm}
use Rattle.code.specs.SoundLaws.{made_good}
use Rattle.code.specs.EntriesLaws.{good_bits}
use Rattle.code.specs.Demand1.{Checks, passed, bit_checks}
use Rattle.code.specs.Demand1Laws.{Decides, demand_1, decides_first}
use Rattle.encode.specs.Outcome.{Outcome, done, tested, encoding, inverting, taking_back}
use Rattle.encode.specs.OutcomeLaws.{tested_parameters, tested_input, tested-output, tested-entry, tested-all}
use Rattle.encode.specs.Demands.{view, encode_checks, frozen_check, inverse_checks, EncodeDemand1, InverseDemand1}

long_or_not : (a b : ℕ) → (a ≡ b) ⊎ (a ≡ b → ⊥)
long_or_not a b = elim (ℕ_discrete a b) [ yes e ↦ inl e | no e ↦ inr e ]

-- the tests of an input of bits, and then the rest
module _ (r m : ℕ) (input : List ℕ) (expected : ℕ) (output : List ℕ) (room : ℕ) (rest : Outcome) (more : Checks) where
  good : Sound (rm r m) → made r m ≡ Ok (rm r m)
  good s = made_good r m s.m_small s.r_small

  pub decides_tested : (length input ≡ expected → Bits input → Decides (output ∷ []) (view rest) more)
      → Decides (output ∷ []) (view (tested r m input expected output room rest)) (bit_checks r m input expected (length output) room more)
  decides_tested then =
      decides_first 0 (λ b. b) 1 r m input expected (length output ≡ room) (output ∷ []) (view (tested r m input expected output room rest)) more
      (record {
        decidable = long_or_not (length output) room;
        one = λ e. ap view (sym (tested_parameters r m input expected output room rest e));
        two = λ s e. ap view (sym (tested_input r m input expected output room rest (good s) refl e));
        three = λ s i e. ap view (sym (tested-output r m input expected output room rest (good s) refl i refl e));
        four = λ s i o h. ap view (sym (tested-entry r m input expected output room rest (good s) refl i refl o refl h));
        else = λ s i o h. rw (← tested-all r m input expected output room rest (good s) refl i refl o refl h) (then i (good_bits input h));
      })

-- the frozen indices, for any row of kinds
pub decides_frozen : (m : ℕ) (ks : List ℕ) → length ks ≡ 2 ^ m → Bits ks → (word bits : List ℕ) → length word ≡ 2 ^ m → Bits word
    → Decides (bits ∷ []) (view (taking_back (taken_back m ks word) bits)) (frozen_check m ks word)
unfolding taken_back
decides_frozen m ks long_kinds kinds_are word bits long are =
    let u = transform m word in
    let i = first_frozen_one ks u in
    let refused = refused_lowest m ks word long_kinds kinds_are long are in
    ⊎_elim
    (λ h.
    let is : taken_back m ks word ≡ frozen_one i = rw (lt-ltb i (length ks) h) in
    inl (i, lowest_refused m ks word long_kinds kinds_are long are i is, λ q l. cc (is, refused q l), rw (lt-ltb i (length ks) h)))
    (λ h.
    let is : taken_back m ks word ≡ taken (pick ks u) = rw (le-ltb i (length ks) h) in
    inr (λ q l. let z : ◌≡◌ {A = ℕ} 0 1 = cc (is, refused q l) in omega arith, rw (le-ltb i (length ks) h) (refl, refl)))
    (lt_or_le i (length ks))

module _ (r m : ℕ) where
  pub encode_demand_1 : (bits word : List ℕ) → EncodeDemand1 r m bits word
  unfolding encoding
  encode_demand_1 bits word =
      let rest = done (encoded m (kinds r m) bits) in
      demand_1 (word ∷ []) (view (encoding r m bits word)) (encode_checks r m bits word)
      (decides_tested r m bits (dimension r m) word (2 ^ m) rest passed (λ long are. (refl, refl)))

  pub inverse_demand_1 : (word bits : List ℕ) → InverseDemand1 r m word bits
  unfolding inverting
  inverse_demand_1 word bits =
      let rest = taking_back (taken_back m (kinds r m) word) bits in
      demand_1 (bits ∷ []) (view (inverting r m word bits)) (inverse_checks r m word bits)
      (decides_tested r m word (2 ^ m) bits (dimension r m) rest (frozen_check m (kinds r m) word)
      (decides_frozen m (kinds r m) (length-kinds r m) (bits_kinds r m) word bits))
