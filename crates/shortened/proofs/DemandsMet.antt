-- The outcomes of calls on a shortened set meet the demands; the quick reading is surely right by the full code's distance.
use Rattle.std.specs.Prelude.{◌≡◌, refl, ◌⊎◌, List, [], ◌∷◌, ℕ, ◌^◌, ◌≤◌, ◌<◌, ℤ, length, Ok, Err}
use Rattle.std.proofs.Common.{ap, sym, subst, ◌∙◌, inl, inr, ⊎_elim, arith}
use Rattle.numbers.specs.Choice.{lt_or_le}
use Rattle.numbers.specs.Sums.{sum}
use Rattle.words.specs.Kinds.{kinds, encoded, Word}
use Rattle.words.specs.Inverse.{taken_back}
use Rattle.sure.specs.Sure.{Sure, Inside, SurelyRight}
use Rattle.sure.proofs.SureLaws.{surely-right}
use Rattle.code.specs.declared.Code.{Code}
use Rattle.code.specs.declared.Refusal.{Refusal}
use Rattle.code.specs.declared.Refusal.TheVariants.{Parameters, Named}
use Rattle.code.specs.Sound.{Sound, largest_m, made, rm}
use Rattle.code.specs.SoundLaws.{made_good}
use Rattle.code.specs.SoundInput.{GoodReadings, SoundFor}
use Rattle.code.specs.Admitted.{admitted_for}
use Rattle.code.specs.AdmittedLaws.{allows, refuses, decided_for, tested-made, refused_small_for, sound_allowed_for}
use Rattle.code.specs.RefusalLaws.{number_above, carries_none}
use Rattle.code.specs.Demand1.{View, refused_as, Checks, passed, check, check_at, bit_checks, reading_checks_for}
use Rattle.code.specs.Demand1Laws.{Decides, demand_1, decides_readings_for}
use Rattle.named.specs.Named.{GoodRow, row_admitted}
use Rattle.named.specs.NamedLaws.{left_frozen, bad_parameters, bad-row, sound_row, row_decided}
use Rattle.encode.specs.Outcome as encoder
use Rattle.encode.specs.Demands as encoders
use Rattle.encode.proofs.DemandsMet.{decides_tested, decides_frozen}
use Rattle.quick.specs.Outcome as reader
use Rattle.quick.specs.Demands as readers
use Rattle.quick.specs.QuickOutcome.{done_by}
use Rattle.shortened.specs.Outcome.{left_of, quick_over, encoding_shortened, inverting_shortened, quick_shortened}
use Rattle.shortened.specs.WorkLaws.{long_left, are_left}
use Rattle.shortened.specs.OutcomeLaws.{encoding-refused, inverting-refused, quick_refused, over-refused}
use Rattle.shortened.specs.OutcomeLaws.{encoding-left, inverting-left, quick-left, over_done}
use Rattle.shortened.specs.Demands.{encode_shortened_checks, inverse_shortened_checks, quick_shortened_checks, ShortenedQuickDone}
use Rattle.shortened.specs.Demands.{EncodeShortenedDemand1, InverseShortenedDemand1, QuickShortenedDemand1}

-- ---- the tests 1 and 12, before any others
module _ (r m : ℕ) where
  abbrev BadParameters : Type 0
  BadParameters = (largest_m < m) ⊎ (m < r)

  sound_not : Sound (rm r m) → BadParameters → ⊥
  sound_not s x = ⊎_elim (λ h. omega (arith, s.m_small)) (λ h. omega (arith, s.r_small)) x

  bad-given : made r m ≡ Err Parameters → BadParameters
  bad-given b =
      ⊎_elim (λ large. inl large)
      (λ small. ⊎_elim (λ crossed. inr crossed)
      (λ within. let z : ◌≡◌ {A = ℕ} 0 1 = cc (made_good r m small within) in absurd (omega arith))
      (lt_or_le m r))
      (lt_or_le largest_m m)

  pub decides_row : (named : List ℕ) (before : List (List ℕ)) (o : View) (rest : Checks)
      → (Err Parameters ≡ row_admitted r m named → o ≡ refused_as Parameters before)
      → (Err Named ≡ row_admitted r m named → o ≡ refused_as Named before)
      → (Sound (rm r m) → Ok (rm r m) ≡ row_admitted r m named → Decides before o (check Parameters BadParameters rest))
      → Decides before o (check Parameters BadParameters (check Named (GoodRow named (kinds r m) → ⊥) rest))
  decides_row named before o rest one twelve then =
      elim (row_decided r m named) [
        | bad_parameters b e ↦ inl (bad-given b, one e)
        | bad-row s bad e ↦ inr (sound_not s, inl (bad, twelve e))
        | sound_row s g e ↦ ⊎_elim (λ x. absurd (sound_not s x.0)) (λ x. inr (x.0, inr (λ bad. bad g, x.1))) (then s e)
      ]

-- the checks after the first
abbrev pub after_one : Checks → Checks
after_one passed = passed
after_one (check why applies rest) = rest
after_one (check_at why applies rest) = rest

-- ---- Demand 1
module _ (r m : ℕ) (named : List ℕ) where
  abbrev ks : List ℕ
  ks = left_of named (rm r m)

  pub encode_shortened_demand_1 : (bits word : List ℕ) → EncodeShortenedDemand1 r m named bits word
  encode_shortened_demand_1 bits word =
      let before = word ∷ [] in
      let o = encoders.view (encoding_shortened r m named bits word) in
      demand_1 before o (encode_shortened_checks r m named bits word)
      (decides_row r m named before o (after_one (bit_checks r m bits (sum ks) (length word) (2 ^ m) passed))
      (λ e. ap encoders.view (sym (encoding-refused r m named Parameters e bits word)))
      (λ e. ap encoders.view (sym (encoding-refused r m named Named e bits word)))
      (λ s e. rw (← encoding-left r m named (rm r m) e bits word)
      (decides_tested r m bits (sum ks) word (2 ^ m) (encoder.done (encoded m ks bits)) passed (λ long are. (refl, refl)))))

  pub inverse_shortened_demand_1 : (word bits : List ℕ) → InverseShortenedDemand1 r m named word bits
  inverse_shortened_demand_1 word bits =
      let before = bits ∷ [] in
      let o = encoders.view (inverting_shortened r m named word bits) in
      demand_1 before o (inverse_shortened_checks r m named word bits)
      (decides_row r m named before o (after_one (bit_checks r m word (2 ^ m) (length bits) (sum ks) (encoders.frozen_check m ks word)))
      (λ e. ap encoders.view (sym (inverting-refused r m named Parameters e word bits)))
      (λ e. ap encoders.view (sym (inverting-refused r m named Named e word bits)))
      (λ s e. rw (← inverting-left r m named (rm r m) e word bits)
      (decides_tested r m word (2 ^ m) bits (sum ks) (encoder.taking_back (taken_back m ks word) bits) (encoders.frozen_check m ks word)
      (decides_frozen m ks (long_left named (rm r m)) (are_left named (rm r m)) word bits))))

  module _ (l : List ℤ) (bits word : List ℕ) where
    tests_refuse : Sound (rm r m) → (why : Refusal) → Err why ≡ admitted_for (λ c. sum ks) r m l (length bits) (length word)
        → readers.view (quick_over ks (rm r m) l bits word) ≡ refused_as why (bits ∷ word ∷ [])
    tests_refuse s why e =
        let same = tested-made (λ c. sum ks) r m l (length bits) (length word) (rm r m) (made_good r m s.m_small s.r_small) in
        let small = refused_small_for (λ c. sum ks) r m l (length bits) (length word) why e in
        let plain : readers.view (reader.refused why bits word) ≡ refused_as why (bits ∷ word ∷ []) =
        rw (carries_none why (λ k. omega arith) (λ k. omega arith)) in
        ap readers.view (sym (over-refused ks (rm r m) l bits word why (e ∙ sym same))) ∙ plain

    sound_read : SoundFor (rm r m) (sum ks) (length bits) (length word) (GoodReadings (rm r m) l)
        → reader.reading_over m ks l ≡ quick_over ks (rm r m) l bits word
    sound_read a =
        let same = tested-made (λ c. sum ks) r m l (length bits) (length word) (rm r m) (made_good r m a.sound.m_small a.sound.r_small) in
        over_done ks (rm r m) l bits word (rm r m) (sound_allowed_for (λ c. sum ks) r m l (length bits) (length word) a ∙ sym same)

    pub quick_shortened_demand_1 : QuickShortenedDemand1 r m named l bits word
    quick_shortened_demand_1 =
        let before = bits ∷ word ∷ [] in
        let o = readers.view (quick_shortened r m named l bits word) in
        demand_1 before o (quick_shortened_checks r m named l bits word)
        (decides_row r m named before o (after_one (reading_checks_for (sum ks) r m l (length bits) (length word) passed))
        (λ e. ap readers.view (sym (quick_refused r m named Parameters e l bits word)))
        (λ e. ap readers.view (sym (quick_refused r m named Named e l bits word)))
        (λ s e. rw (← quick-left r m named (rm r m) e l bits word)
        (decides_readings_for (λ c. sum ks) r m l (length bits) (length word) before (readers.view (quick_over ks (rm r m) l bits word)) passed
        (tests_refuse s) (λ a. rw (← sound_read a) (refl, refl)))))

    -- what the quick reading gives
    not_done : (why : Refusal) → reader.refused why bits word ≡ quick_shortened r m named l bits word → (quick_shortened r m named l bits word).number ≡ 0 → ⊥
    not_done why e z = omega (arith, number_above why, ap (λ (o : reader.Outcome). o.number) e)

    pub shortened_quick_done : ShortenedQuickDone r m named l bits word
    shortened_quick_done z =
        elim (row_decided r m named) [
          | bad_parameters b e ↦ absurd (not_done Parameters (quick_refused r m named Parameters e l bits word) z)
          | bad-row s bad e ↦ absurd (not_done Named (quick_refused r m named Named e l bits word) z)
          | sound_row s g e ↦
              let left = quick-left r m named (rm r m) e l bits word in
              let same = tested-made (λ c. sum ks) r m l (length bits) (length word) (rm r m) (made_good r m s.m_small s.r_small) in
              elim (decided_for (λ c. sum ks) r m l (length bits) (length word)) [
                | refuses why f h ↦ absurd (not_done why (over-refused ks (rm r m) l bits word why (f ∙ sym same) ∙ left) z)
                | allows c f is a ↦
                    let sound = subst (λ (d : Code). SoundFor d (sum ks) (length bits) (length word) (GoodReadings d l)) is a in
                    (g, sound, rw (← left, ← sound_read sound) (done_by m ks l (long_left named (rm r m)) (are_left named (rm r m))))
              ]
        ]

-- ---- surely right: the set is inside RM(r,m), so that the sum is compared with the full code's distance
pub left_inside : (r m : ℕ) (named : List ℕ) → Inside r m (left_of named (rm r m))
left_inside r m named = record { long = long_left named (rm r m); are_bits = are_left named (rm r m); frozen = left_frozen named (kinds r m) }

pub left_surely_right : (M r m : ℕ) (named : List ℕ) (l : List ℤ) (c : List ℕ) → r ≤ m → (w : Word m (left_of named (rm r m)) c) → Sure M r m l c
    → SurelyRight M r m (left_of named (rm r m)) l c w.bits
left_surely_right M r m named l c h w s = surely-right M r m (left_of named (rm r m)) l c h (left_inside r m named) w s
