-- The outcomes of the search on a shortened set meet the demands.
use Rattle.std.specs.Prelude.{◌≡◌, refl, List, [], ◌∷◌, ℕ, ◌^◌, ℤ, length, replicate, Result, Ok, Err}
use Rattle.std.proofs.Common.{ap, sym, ◌∙◌, arith, ne_eqb}
use Rattle.numbers.specs.Sums.{sum}
use Rattle.words.specs.Kinds.{kinds}
use Rattle.decoding.specs.Answer.{answer}
use Rattle.decoding.proofs.DemandsMet.{demands}
use Rattle.code.specs.declared.Code.{Code}
use Rattle.code.specs.declared.Refusal.{Refusal}
use Rattle.code.specs.declared.Refusal.TheVariants.{Parameters, Named}
use Rattle.code.specs.Sound.{Sound, rm}
use Rattle.code.specs.SoundLaws.{made_good}
use Rattle.code.specs.SoundInput.{GoodReadings, SoundFor}
use Rattle.code.specs.Admitted.{admitted_by, admitted_for, after_test}
use Rattle.code.specs.AdmittedLaws.{allows, refuses, decided_for, tested-made, sound_allowed_for}
use Rattle.code.specs.RefusalLaws.{number_above}
use Rattle.code.specs.Demand1.{View, reading_checks_for}
use Rattle.code.specs.Demand1Laws.{demand_1, decides_readings_for}
use Rattle.named.specs.Named.{GoodRow, row_admitted}
use Rattle.named.specs.NamedLaws.{bad_parameters, bad-row, sound_row, row_decided}
use Rattle.search.specs.Outcome.{by_answer}
use Rattle.search.specs.RunnerUp.{RunnerUpOutcome, runner_up, shown_with, runner_up_outcome_by}
use Rattle.search.specs.Demands.{view, walk_checks_over, Passes}
use Rattle.search.specs.DemandsMet.{answered_kept, demands_of}
use Rattle.search.proofs.RunnerUpMet.{runner_up-shown}
use Rattle.search.proofs.Demand1Met.{answer_decides}
use Rattle.shortened.specs.Outcome.{left_of}
use Rattle.shortened.specs.WorkLaws.{long_left, are_left}
use Rattle.shortened.specs.OutcomeLaws.{good_allowed}
use Rattle.shortened.proofs.DemandsMet.{decides_row, after_one}
use Rattle.shortened_search.specs.Outcome.{refused_with_none, searching_over, searching_shortened}
use Rattle.shortened_search.specs.OutcomeLaws.{searching-refused, searching-left, over-refused, over_answered}
use Rattle.shortened_search.specs.Demands.{search_shortened_checks, ShortenedDemand1, ShortenedLargerAllowance, smaller_set, ShortenedDemands, RunnerUpLeft}

module _ (r m allowed : ℕ) (named : List ℕ) (l : List ℤ) (bits word : List ℕ) where
  abbrev ks : List ℕ
  ks = left_of named (rm r m)

  abbrev over : RunnerUpOutcome
  over = searching_over ks (rm r m) allowed l bits word

  same_tests : Sound (rm r m) → admitted_by (rm r m) (sum ks) l (length bits) (length word) ≡ admitted_for (λ c. sum ks) r m l (length bits) (length word)
  same_tests s = tested-made (λ c. sum ks) r m l (length bits) (length word) (rm r m) (made_good r m s.m_small s.r_small)

  -- if tests 2 to 4 find nothing, by the answer
  over_sound : SoundFor (rm r m) (sum ks) (length bits) (length word) (GoodReadings (rm r m) l) → runner_up_outcome_by m ks l allowed bits word ≡ over
  over_sound a =
      over_answered ks (rm r m) allowed l bits word (rm r m)
      (sound_allowed_for (λ c. sum ks) r m l (length bits) (length word) a ∙ sym (same_tests a.sound))

  -- ---- Demand 1
  pub search_shortened_demand_1 : ShortenedDemand1 r m allowed named l bits word
  search_shortened_demand_1 =
      let before = bits ∷ word ∷ [] in
      let o = view (searching_shortened r m allowed named l bits word).outcome in
      let shown : RunnerUpOutcome → View = λ w. view w.outcome in
      demand_1 before o (search_shortened_checks r m allowed named l bits word)
      (decides_row r m named before o (after_one (reading_checks_for (sum ks) r m l (length bits) (length word) (walk_checks_over m ks allowed l)))
      (λ e. ap shown (sym (searching-refused r m allowed named l bits word Parameters e)))
      (λ e. ap shown (sym (searching-refused r m allowed named l bits word Named e)))
      (λ s e. rw (← searching-left r m allowed named l bits word (rm r m) e)
      (decides_readings_for (λ c. sum ks) r m l (length bits) (length word) before (view over.outcome) (walk_checks_over m ks allowed l)
      (λ why f. ap shown (sym (over-refused ks (rm r m) allowed l bits word why (f ∙ sym (same_tests s)))))
      (λ a. rw (← over_sound a) (answer_decides m ks allowed l bits word)))))

-- ---- a larger allowance
-- a test does not look at it
test_kept : (t : Result Code Refusal) (refuse : Refusal → RunnerUpOutcome) (then then' : Code → RunnerUpOutcome)
    → ((c : Code) → ((then c).outcome.number ≡ 6 → ⊥) → then' c ≡ then c)
    → ((after_test t refuse then).outcome.number ≡ 6 → ⊥) → after_test t refuse then' ≡ after_test t refuse then
test_kept (Err why) refuse then then' f n = refl
test_kept (Ok c) refuse then then' f n = f c n

pub shortened_larger_allowance : (r m : ℕ) (named : List ℕ) (l : List ℤ) (bits word : List ℕ) → ShortenedLargerAllowance r m named l bits word
unfolding searching_shortened
shortened_larger_allowance r m named l bits word allowed more h =
    test_kept (row_admitted r m named) _ _ _
    (λ c. let ks = left_of named c in
    test_kept (admitted_by c (sum ks) l (length bits) (length word)) _ _ _
    (λ d n. ap (shown_with (runner_up d.m ks l)) (answered_kept d.m ks l bits word allowed more h n)))

-- ---- Demands 2 and 3
module _ (r m : ℕ) (named : List ℕ) (g : GoodRow named (kinds r m)) where
  pub answered : (l : List ℤ) (bits word : List ℕ) → Passes (smaller_set r m named) l bits word → (allowed : ℕ)
      → (searching_shortened r m allowed named l bits word).outcome ≡ by_answer allowed bits word (answer m (left_of named (rm r m)) l allowed)
  answered l bits word a allowed =
      ap (λ (w : RunnerUpOutcome). w.outcome)
      (sym (searching-left r m allowed named l bits word (rm r m) (good_allowed r m named a.sound g)) ∙ sym (over_sound r m allowed named l bits word a))

  pub shortened_demands : (l : List ℤ) (bits word : List ℕ) → Passes (smaller_set r m named) l bits word → ShortenedDemands r m named l bits word
  shortened_demands l bits word a =
      demands_of (smaller_set r m named) answered l bits word a
      (demands m (left_of named (rm r m)) l a.entries.long (long_left named (rm r m)) (are_left named (rm r m)) g.leaves)

-- ---- the runner-up
module _ (r m allowed : ℕ) (named : List ℕ) (l : List ℤ) (bits word : List ℕ) where
  refused-zeros : (why : Refusal) (w : RunnerUpOutcome) → refused_with_none why bits word ≡ w → (w.outcome.number ≡ 0 → ⊥) × (w.runner_up ≡ replicate 256 0)
  refused-zeros why w e = rw (← e) (λ z. omega (arith, number_above why), refl)

  runner_refused : (why : Refusal) → refused_with_none why bits word ≡ searching_shortened r m allowed named l bits word
      → RunnerUpLeft r m allowed named l bits word
  runner_refused why e =
      let z = refused-zeros why (searching_shortened r m allowed named l bits word) e in
      record { found = λ n. absurd (z.0 n); refused = λ n. z.1 }

  pub runner_up-left : RunnerUpLeft r m allowed named l bits word
  runner_up-left =
      let ks = left_of named (rm r m) in
      elim (row_decided r m named) [
        | bad_parameters b e ↦ runner_refused Parameters (searching-refused r m allowed named l bits word Parameters e)
        | bad-row s bad e ↦ runner_refused Named (searching-refused r m allowed named l bits word Named e)
        | sound_row s g e ↦
            let left = searching-left r m allowed named l bits word (rm r m) e in
            let same = same_tests r m allowed named l bits word s in
            elim (decided_for (λ c. sum ks) r m l (length bits) (length word)) [
              | refuses why f h ↦ runner_refused why (over-refused ks (rm r m) allowed l bits word why (f ∙ sym same) ∙ left)
              | allows c f is a ↦
                  let is-left : runner_up_outcome_by m ks l allowed bits word ≡ searching_shortened r m allowed named l bits word =
                  ap (λ (d : Code). runner_up_outcome_by d.m ks l allowed bits word) (sym is)
                  ∙ over_answered ks (rm r m) allowed l bits word c (f ∙ sym same) ∙ left in
                  let long = a.entries.long ∙ ap (λ (d : Code). 2 ^ d.m) is in
                  record {
                    found = λ n. rw (← is-left)
                        (runner_up-shown m ks l long (long_left named (rm r m)) (are_left named (rm r m)) g.leaves allowed bits word
                        (ap (λ (w : RunnerUpOutcome). w.outcome.number) is-left ∙ n));
                    refused = λ n. ap (λ (w : RunnerUpOutcome). w.runner_up) (sym is-left)
                        ∙ rw (ne_eqb (by_answer allowed bits word (answer m ks l allowed)).number 0
                        (λ z. n (ap (λ (w : RunnerUpOutcome). w.outcome.number) (sym is-left) ∙ z)));
                  }
            ]
      ]
