-- Laws of the tests: what each refusal follows from, and what holds for an input that is allowed.
use Rattle.std.specs.Prelude.{◌≡◌, refl, List, ℕ, ◌^◌, ◌≤◌, ◌<◌, ℤ, pos, nat_abs, length, Result, Ok, Err}
use Rattle.std.proofs.Common.{◌∙◌, ⊎_elim, arith, eq-eqb, ne_eqb, lt-ltb, le-ltb}
use Rattle.std.proofs.Math.Decide.{ℕ_discrete}
use Rattle.numbers.specs.Choice.{lt_or_le}
use Rattle.code.specs.declared.Code.{Code}
use Rattle.code.specs.declared.Refusal.{Refusal}
use Rattle.code.specs.declared.Refusal.TheVariants.{Parameters, InputLength, OutputLength, Entry}
use Rattle.code.specs.Sound.{made, largest_reading, number_of, rm}
use Rattle.code.specs.SoundLaws.{made_of, made_good, made_refused}
use Rattle.code.specs.SoundInput.{dimension_of, GoodReadings, SoundFor, SoundReadings}
use Rattle.code.specs.Entries.{first_bad_reading}
use Rattle.code.specs.EntriesLaws.{first-none, good_readings}
use Rattle.code.specs.Admitted.{entry_tested, admitted_by, admitted_for, admitted}

-- ---- test 4
pub entry_refused : (place n : ℕ) → place < n → Err (Entry place) ≡ entry_tested place n
entry_refused place n h = rw (lt-ltb place n h)

pub entry_passed : (place n : ℕ) → n ≤ place → Ok tt ≡ entry_tested place n
entry_passed place n h = rw (le-ltb place n h)

-- what is refused, and what is not, shows where the first bad entry is
pub entry_err : {why : Refusal} (place n : ℕ) → entry_tested place n ≡ Err why → (why ≡ Entry place) × (place < n)
entry_err place n e =
    ⊎_elim
    (λ h. (cc (entry_refused place n h), h))
    (λ h. let z : ◌≡◌ {A = ℕ} 0 1 = cc (entry_passed place n h) in absurd (omega arith))
    (lt_or_le place n)

pub entry_ok : {u : Unit {0}} (place n : ℕ) → entry_tested place n ≡ Ok u → n ≤ place
entry_ok place n e =
    ⊎_elim
    (λ h. let z : ◌≡◌ {A = ℕ} 0 1 = cc (entry_refused place n h) in absurd (omega arith))
    (λ h. h)
    (lt_or_le place n)

-- ---- tests 2 to 4 of a code, with this number of information bits expected
module _ (c : Code) (expected : ℕ) (l : List ℤ) (k n : ℕ) where
  pub refused_input : (length l ≡ 2 ^ c.m → ⊥) → Err InputLength ≡ admitted_by c expected l k n
  refused_input f = rw (ne_eqb (length l) (2 ^ c.m) f)

  module _ (long : length l ≡ 2 ^ c.m) where
    pub refused_bits : (k ≡ expected → ⊥) → Err OutputLength ≡ admitted_by c expected l k n
    refused_bits f = rw (eq-eqb (length l) (2 ^ c.m) long, ne_eqb k expected f)

    module _ (bits : k ≡ expected) where
      pub refused-word : (n ≡ 2 ^ c.m → ⊥) → Err OutputLength ≡ admitted_by c expected l k n
      refused-word f = rw (eq-eqb (length l) (2 ^ c.m) long, eq-eqb k expected bits, ne_eqb n (2 ^ c.m) f)

      module _ (word : n ≡ 2 ^ c.m) where
        pub refused-entry : first_bad_reading largest_reading l < length l
            → Err (Entry (first_bad_reading largest_reading l)) ≡ admitted_by c expected l k n
        refused-entry h =
            let place = first_bad_reading largest_reading l in
            rw (eq-eqb (length l) (2 ^ c.m) long, eq-eqb k expected bits, eq-eqb n (2 ^ c.m) word, lt-ltb place (length l) h)

        pub allowed : length l ≤ first_bad_reading largest_reading l → Ok c ≡ admitted_by c expected l k n
        allowed h =
            let place = first_bad_reading largest_reading l in
            rw (eq-eqb (length l) (2 ^ c.m) long, eq-eqb k expected bits, eq-eqb n (2 ^ c.m) word, le-ltb place (length l) h)

-- ---- after test 1
module _ (expected : Code → ℕ) (r m : ℕ) (l : List ℤ) (k n : ℕ) where
  pub refused_parameters : {why : Refusal} → made r m ≡ Err why → Err why ≡ admitted_for expected r m l k n
  unfolding admitted_for
  refused_parameters e = rw e

  pub tested-made : (c : Code) → made r m ≡ Ok c → admitted_by c (expected c) l k n ≡ admitted_for expected r m l k n
  unfolding admitted_for
  tested-made c e = rw e

-- ---- and back
pub data Decided (expected : Code → ℕ) (r m : ℕ) (l : List ℤ) (k n : ℕ) : Type 0 where
  allows : (c : Code) → Ok c ≡ admitted_for expected r m l k n → c ≡ rm r m → SoundFor c (expected c) k n (GoodReadings c l) → Decided expected r m l k n
  refuses : (why : Refusal) → Err why ≡ admitted_for expected r m l k n → number_of why < 5 → Decided expected r m l k n

module _ (expected : Code → ℕ) (r m : ℕ) (l : List ℤ) (k n : ℕ) where
  decided_good : (c : Code) → made r m ≡ Ok c → Decided expected r m l k n
  decided_good c good =
      let made = made_of r m c good in
      let after = tested-made expected r m l k n c good in
      elim (ℕ_discrete (length l) (2 ^ c.m)) [
        | yes e ↦ elim (ℕ_discrete k (expected c)) [
          | yes b ↦ elim (ℕ_discrete n (2 ^ c.m)) [
            | yes w ↦ ⊎_elim
                (λ h. refuses (Entry (first_bad_reading largest_reading l)) (refused-entry c (expected c) l k n e b w h ∙ after) (omega arith))
                (λ h.
                let entries : GoodReadings c l = record { long = e; within = good_readings largest_reading l h } in
                allows c (allowed c (expected c) l k n e b w h ∙ after) made.same
                (record { sound = made.sound; long_bits = b; long_word = w; entries = entries }))
                (lt_or_le (first_bad_reading largest_reading l) (length l))
            | no w ↦ refuses OutputLength (refused-word c (expected c) l k n e b w ∙ after) (omega arith)
          ]
          | no b ↦ refuses OutputLength (refused_bits c (expected c) l k n e b ∙ after) (omega arith)
        ]
        | no e ↦ refuses InputLength (refused_input c (expected c) l k n e ∙ after) (omega arith)
      ]

  decided_by : (x : Result Code Refusal) → made r m ≡ x → Decided expected r m l k n
  decided_by (Ok c) e = decided_good c e
  decided_by (Err why) e = refuses why (refused_parameters expected r m l k n e) (rw (made_refused r m why e) (omega arith))

  pub decided_for : Decided expected r m l k n
  decided_for = decided_by (made r m) refl

  pub allowed_sound_for : (c : Code) → Ok c ≡ admitted_for expected r m l k n → (c ≡ rm r m) × SoundFor c (expected c) k n (GoodReadings c l)
  allowed_sound_for c e =
      elim decided_for [
        | allows d f is a ↦ let same : c ≡ d = cc in rw same (is, a)
        | refuses why f h ↦ let z : ◌≡◌ {A = ℕ} 0 1 = cc in absurd (omega arith)
      ]

  pub refused_small_for : (why : Refusal) → Err why ≡ admitted_for expected r m l k n → number_of why < 5
  refused_small_for why e =
      elim decided_for [
        | allows c f is a ↦ let z : ◌≡◌ {A = ℕ} 0 1 = cc in absurd (omega arith)
        | refuses given f h ↦ let same : why ≡ given = cc in rw same h
      ]

  pub sound_allowed_for : SoundFor (rm r m) (expected (rm r m)) k n (GoodReadings (rm r m) l) → Ok (rm r m) ≡ admitted_for expected r m l k n
  sound_allowed_for a =
      let good = made_good r m a.sound.m_small a.sound.r_small in
      let none = first-none (pos 0) nat_abs largest_reading l (length l) (λ j h. a.entries.within j) refl in
      allowed (rm r m) (expected (rm r m)) l k n a.entries.long a.long_bits a.long_word (omega (arith, none))
      ∙ tested-made expected r m l k n (rm r m) good

-- for RM(r,m)
module _ (r m : ℕ) (l : List ℤ) (k n : ℕ) where
  pub decided : Decided dimension_of r m l k n
  decided = decided_for dimension_of r m l k n

  pub allowed_sound : (c : Code) → Ok c ≡ admitted r m l k n → SoundReadings c l k n
  allowed_sound c e = (allowed_sound_for dimension_of r m l k n c e).1

  pub refused_small : (why : Refusal) → Err why ≡ admitted r m l k n → number_of why < 5
  refused_small = refused_small_for dimension_of r m l k n

  pub sound_allowed : SoundReadings (rm r m) l k n → Ok (rm r m) ≡ admitted r m l k n
  sound_allowed = sound_allowed_for dimension_of r m l k n
