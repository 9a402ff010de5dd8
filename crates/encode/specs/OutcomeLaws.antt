-- The outcome at each place where a call returns, and what an outcome says about the tests 1 to 4.
use Rattle.std.specs.Prelude.{◌≡◌, refl, List, ◌⊎◌, Bool, true, false, not, cond, ℕ, ◌^◌, ◌≤◌, ◌<◌, length, ltb, eqb, Result, Ok, Err}
use Rattle.std.proofs.Common.{ap, ◌∙◌, subst, inl, inr, ⊎_elim, arith}
use Rattle.std.proofs.Math.Path.{sym}
use Rattle.std.proofs.Math.Decide.{ℕ_discrete}
use borrow.Author.Tests.{eq-eqb, ne_eqb, lt-ltb, le-ltb}
use Rattle.numbers.specs.Choice.{lt_or_le}
use Rattle.words.specs.Bits.{Bits}
use Rattle.words.specs.Word.{transform}
use Rattle.words.specs.Kinds.{kinds, dimension, pick, encoded}
use Rattle.words.specs.Inverse.{taken, frozen_one, first_frozen_one, taken_back}
use Rattle.code.specs.declared.Code.{Code}
use Rattle.code.specs.declared.Refusal.{Refusal}
use Rattle.code.specs.declared.Refusal.TheVariants.{InputLength, OutputLength, Entry, NotAWord}
use Rattle.code.specs.Sound.{Sound, made, number_of, rm}
use Rattle.code.specs.SoundInput.{SoundInput}
use Rattle.code.specs.SoundLaws.{made_of, made_good, made_refused}
use Rattle.code.specs.RefusalLaws.{number_above}
use Rattle.code.specs.Entries.{first_bad_bit}
use Rattle.code.specs.EntriesLaws.{first-none, good_bits}
use Rattle.code.specs.AdmittedLaws.{entry_ok}
use Rattle.encode.specs.Outcome.{Outcome, done, refused, bits_admitted, tested, encoding, inverting, taking_back}
use Rattle.encode.specs.Work.{taking_row}

-- ---- the tests, one after the other, with the numbers k and n that the code compares
module _ (r m : ℕ) (input : List ℕ) (long : ℕ) (output : List ℕ) (room : ℕ) (rest : Outcome) where
  pub tested_parameters : {why : Refusal} → made r m ≡ Err why → refused why output ≡ tested r m input long output room rest
  unfolding tested
  tested_parameters e = rw (made_refused r m _ e, e)

  module _ {c : Code} (good : made r m ≡ Ok c) {k : ℕ} (e : k ≡ long) where
    pub tested_input : (length input ≡ k → ⊥) → refused InputLength output ≡ tested r m input long output room rest
    unfolding tested
    tested_input wrong = rw (good, ne_eqb (length input) long (λ h. wrong (h ∙ sym e)))

    module _ (a : length input ≡ k) {n : ℕ} (f : n ≡ room) where
      pub tested-output : (length output ≡ n → ⊥) → refused OutputLength output ≡ tested r m input long output room rest
      unfolding tested
      tested-output wrong = rw (good, eq-eqb (length input) long (a ∙ e), ne_eqb (length output) room (λ h. wrong (h ∙ sym f)))

      module _ (b : length output ≡ n) {i : ℕ} (place : i ≡ first_bad_bit input) where
        pub tested-entry : i < length input → refused (Entry i) output ≡ tested r m input long output room rest
        unfolding tested
        tested-entry h =
            rw (good, eq-eqb (length input) long (a ∙ e), eq-eqb (length output) room (b ∙ f), ← place, lt-ltb i (length input) h)

        pub tested-all : length input ≤ i → rest ≡ tested r m input long output room rest
        unfolding tested
        tested-all h =
            rw (good, eq-eqb (length input) long (a ∙ e), eq-eqb (length output) room (b ∙ f), ← place, le-ltb i (length input) h)

-- ---- the tests 2 to 4 as one step
-- the outcome after a step that refuses or passes
abbrev pub after : Result (Unit {0}) Refusal → List ℕ → Outcome → Outcome
after (Ok _) output rest = rest
after (Err why) output rest = refused why output

after_each : (a b d : Bool) (i : ℕ) (output : List ℕ) (rest : Outcome)
    → after (cond (not a) (Err InputLength) (cond (not b) (Err OutputLength) (cond d (Err (Entry i)) (Ok tt)))) output rest
    ≡ cond (not a) (refused InputLength output) (cond (not b) (refused OutputLength output) (cond d (refused (Entry i) output) rest))
after_each false b d i output rest = refl
after_each true false d i output rest = refl
after_each true true true i output rest = refl
after_each true true false i output rest = refl

module _ (r m : ℕ) (input : List ℕ) (long : ℕ) (output : List ℕ) (room : ℕ) (rest : Outcome) {c : Code} (good : made r m ≡ Ok c)
    {k n : ℕ} (e : k ≡ long) (f : n ≡ room) where
  after_tests : after (bits_admitted input k (length output) n) output rest ≡ tested r m input long output room rest
  unfolding tested
  after_tests =
      let i = first_bad_bit input in
      rw (good, e, f) (after_each (eqb (length input) long) (eqb (length output) room) (ltb i (length input)) i output rest)

  pub tested_refused : {why : Refusal} → bits_admitted input k (length output) n ≡ Err why
      → refused why output ≡ tested r m input long output room rest
  tested_refused t = ap (λ (x : Result (Unit {0}) Refusal). after x output rest) (sym t) ∙ after_tests

  pub tested_passed : {u : Unit {0}} → bits_admitted input k (length output) n ≡ Ok u → rest ≡ tested r m input long output room rest
  tested_passed t = ap (λ (x : Result (Unit {0}) Refusal). after x output rest) (sym t) ∙ after_tests

-- what passes
pub record Passed (input : List ℕ) (long output room : ℕ) : Type 0 where
  pub long_input : length input ≡ long
  pub long_output : output ≡ room
  pub entries : Bits input

pub bits_passed : {u : Unit {0}} (input : List ℕ) (long output room : ℕ) → bits_admitted input long output room ≡ Ok u → Passed input long output room
bits_passed input long output room e =
    elim (ℕ_discrete (length input) long) [
      | yes i ↦ elim (ℕ_discrete output room) [
        | yes o ↦
            let t = rw (eq-eqb (length input) long i, eq-eqb output room o) at e in
            record { long_input = i; long_output = o; entries = good_bits input (entry_ok (first_bad_bit input) (length input) t) }
        | no o ↦ let z : ◌≡◌ {A = ℕ} 0 1 = cc (rw (eq-eqb (length input) long i, ne_eqb output room o) at e) in absurd (omega arith)
      ]
      | no i ↦ let z : ◌≡◌ {A = ℕ} 0 1 = cc (rw (ne_eqb (length input) long i) at e) in absurd (omega arith)
    ]

-- n and k of a made code are those of r and m
module _ (r m : ℕ) {c : Code} (good : made r m ≡ Ok c) where
  pub its_length : {n : ℕ} → n ≡ 2 ^ c.m → n ≡ 2 ^ m
  its_length e = e ∙ ap (λ (d : Code). 2 ^ d.m) (made_of r m c good).same

  pub its_dimension : {k : ℕ} → k ≡ dimension c.r c.m → k ≡ dimension r m
  its_dimension e = e ∙ ap (λ (d : Code). dimension d.r d.m) (made_of r m c good).same

good_or_bad : (x : Result Code Refusal) → ((c : Code) × (x ≡ Ok c)) ⊎ ((why : Refusal) × (x ≡ Err why))
good_or_bad (Ok c) = inl (c, refl)
good_or_bad (Err why) = inr (why, refl)

module _ (r m : ℕ) (input : List ℕ) (long : ℕ) (output : List ℕ) (room : ℕ) (rest : Outcome) where
  pub passes-all : Sound (rm r m) → length input ≡ long → length output ≡ room → Bits input → tested r m input long output room rest ≡ rest
  passes-all s i o b =
      let place = first-none 0 (λ x. x) 1 input (length input) (λ j k. omega (arith, b j)) refl in
      sym (tested-all r m input long output room rest (made_good r m s.m_small s.r_small) refl i refl o place (omega arith))

  refuses : {A : Type 0} (why : Refusal) → number_of why < 5 → refused why output ≡ tested r m input long output room rest
      → A ⊎ ((0 < (tested r m input long output room rest).number) × ((tested r m input long output room rest).number < 5))
  refuses why h e = inr (rw (← e) (number_above why, h))

  -- either none applies, or the outcome has the number of one
  decided : (Sound (rm r m) × (length input ≡ long) × (length output ≡ room) × Bits input)
      ⊎ ((0 < (tested r m input long output room rest).number) × ((tested r m input long output room rest).number < 5))
  decided =
      ⊎_elim
      (λ (g : (c : Code) × (made r m ≡ Ok c)). elim (ℕ_discrete (length input) long) [
        | yes i ↦ elim (ℕ_discrete (length output) room) [
          | yes o ↦ ⊎_elim
              (λ h. refuses (Entry (first_bad_bit input)) (omega arith) (tested-entry r m input long output room rest g.1 refl i refl o refl h))
              (λ h.
              let made = made_of r m g.0 g.1 in
              inl (subst Sound made.same made.sound, i, o, good_bits input h))
              (lt_or_le (first_bad_bit input) (length input))
          | no o ↦ refuses OutputLength (omega arith) (tested-output r m input long output room rest g.1 refl i refl o)
        ]
        | no i ↦ refuses InputLength (omega arith) (tested_input r m input long output room rest g.1 refl i)
      ])
      (λ (g : (why : Refusal) × (made r m ≡ Err why)).
      refuses g.0 (rw (made_refused r m g.0 g.1) (omega arith)) (tested_parameters r m input long output room rest g.1))
      (good_or_bad (made r m))

  pub tested_small : rest.number < 6 → (tested r m input long output room rest).number < 6
  tested_small h = ⊎_elim (λ p. rw (passes-all p.0 p.1 p.2 p.3) h) (λ n. omega arith) decided

  pub passes : ((tested r m input long output room rest).number ≡ 0) ⊎ (5 ≤ (tested r m input long output room rest).number)
      → Sound (rm r m) × (length input ≡ long) × (length output ≡ room) × Bits input
  passes h = ⊎_elim (λ p. p) (λ n. absurd (⊎_elim (λ e. omega arith) (λ e. omega arith) h)) decided

-- ---- sound input is what the tests 1 to 4 let through
module _ (r m : ℕ) (bits word : List ℕ) where
  pub sound_encoding : SoundInput (rm r m) (length bits) (length word) (Bits bits) → encoding r m bits word ≡ done (encoded m (kinds r m) bits)
  unfolding encoding
  sound_encoding s =
      passes-all r m bits (dimension r m) word (2 ^ m) (done (encoded m (kinds r m) bits)) s.sound s.long_bits s.long_word s.entries

  pub encoding_sound : (encoding r m bits word).number ≡ 0 → SoundInput (rm r m) (length bits) (length word) (Bits bits)
  unfolding encoding
  encoding_sound z =
      let p = passes r m bits (dimension r m) word (2 ^ m) (done (encoded m (kinds r m) bits)) (inl z) in
      record { sound = p.0; long_bits = p.1; long_word = p.2; entries = p.3 }

  pub sound_inverting : SoundInput (rm r m) (length bits) (length word) (Bits word)
      → inverting r m word bits ≡ taking_back (taken_back m (kinds r m) word) bits
  unfolding inverting
  sound_inverting s =
      passes-all r m word (2 ^ m) bits (dimension r m) (taking_back (taken_back m (kinds r m) word) bits) s.sound s.long_word s.long_bits s.entries

  pub inverting_sound : ((inverting r m word bits).number ≡ 0) ⊎ (5 ≤ (inverting r m word bits).number)
      → SoundInput (rm r m) (length bits) (length word) (Bits word)
  unfolding inverting
  inverting_sound z =
      let p = passes r m word (2 ^ m) bits (dimension r m) (taking_back (taken_back m (kinds r m) word) bits) z in
      record { sound = p.0; long_bits = p.2; long_word = p.1; entries = p.3 }

-- ---- what is taken back
module _ (ks u bits : List ℕ) {i : ℕ} (index : i ≡ first_frozen_one ks u) where
  pub taking_refused : i < length ks → refused (NotAWord i) bits ≡ taking_row ks u bits
  taking_refused h = rw (← index, lt-ltb i (length ks) h)

  pub taking_done : length ks ≤ i → done (pick ks u) ≡ taking_row ks u bits
  taking_done h = rw (← index, le-ltb i (length ks) h)

-- a word's row is its transform
pub taking_word : (m : ℕ) (ks x bits : List ℕ) → taking_row ks (transform m x) bits ≡ taking_back (taken_back m ks x) bits
unfolding taken_back
taking_word m ks x bits =
    let u = transform m x in
    let i = first_frozen_one ks u in
    elim (ltb i (length ks)) as (λ t. cond t (refused (NotAWord i) bits) (done (pick ks u)) ≡ taking_back (cond t (frozen_one i) (taken (pick ks u))) bits)
    [ true ↦ refl | false ↦ refl ]
