-- The call's outcomes meet the demands: they are the search's, with an allowance that is never too small.
use Rattle.std.specs.Prelude.{◌≡◌, refl, List, [], ◌∷◌, ℕ, ◌≤◌, ◌<◌, ℤ, length}
use Rattle.std.proofs.Common.{ap, sym, ◌∙◌, subst, inl, inr, ⊎_elim, arith, le_refl}
use Rattle.std.proofs.Math.Decide.{ℕ_discrete}
use Rattle.numbers.specs.Choice.{lt_or_le}
use Rattle.words.specs.Kinds.{kinds}
use Rattle.words.proofs.KindLaws.{bits_kinds}
use Rattle.decoding.specs.Readings.{turns}
use Rattle.decoding.specs.Best.{least_penalty, gap, best_bits, best_word}
use Rattle.decoding.specs.Walk.{needed, tree}
use Rattle.decoding.specs.TreeLaws.{needed_most}
use Rattle.decoding.specs.Answer.{Answer, answer}
use Rattle.decoding.specs.AnswerLaws.{answer_tied, answer-found}
use Rattle.decoding.proofs.DemandsMet.{demands_code}
use Rattle.code.specs.declared.Code.{Code}
use Rattle.code.specs.declared.Refusal.TheVariants.{Tied}
use Rattle.hadamard.proofs.TheoremsMet.{transform_theorems}
use Rattle.code.specs.Sound.{largest_m, largest_reading}
use Rattle.code.specs.SoundInput.{SoundReadings}
use Rattle.code.specs.AdmittedLaws.{allows, refuses, decided}
use Rattle.code.specs.Demand1.{passed, check}
use Rattle.code.specs.Demand1Laws.{Decides, demand_1, decides_readings}
use Rattle.search.specs.Outcome.{Outcome, found_with, refused, by_answer, searching}
use Rattle.search.specs.OutcomeLaws.{searching-refused}
use Rattle.search.specs.RunnerUp.{RunnerUpOutcome}
use Rattle.search.specs.Demands.{view, SoundSearch, PlusWord}
use Rattle.search.specs.DemandsMet.{sound_answered, larger_allowance, outcome_demands}
use Rattle.first_order.specs.Outcome.{without_visits, first_ordering}
use Rattle.first_order.specs.OutcomeLaws.{other_order, first-order, test_refused}
use Rattle.first_order.specs.Demands.{first_order_checks, FirstOrderDemand1, FirstOrderAsSearch, FirstOrderDemand2, FirstOrderDemands, StillFits}

-- ---- once tests 1 to 4 find nothing: by the gap
module _ {m : ℕ} {l : List ℤ} (bits word : List ℕ) (x : SoundSearch 1 m l bits word) where
  abbrev ks : List ℕ
  ks = kinds 1 m

  abbrev all : ℕ
  all = tree ks

  enough : needed m ks l ≤ all
  enough = needed_most m ks l (bits_kinds 1 m)

  reported_by : (a : Answer) → answer m ks l all ≡ a → first_ordering 1 m l bits word ≡ without_visits (by_answer all bits word a)
  reported_by a e =
      sym (first-order 1 m l bits word refl) ∙ ap without_visits (sound_answered bits word x all ∙ ap (by_answer all bits word) e)

  found-is : 0 < gap m ks l → first_ordering 1 m l bits word ≡ found_with (least_penalty m ks l) (gap m ks l) 0 (best_bits m ks l) (best_word m ks l)
  found-is g = reported_by _ (answer-found m ks l all enough g)

  tied_is : gap m ks l ≡ 0 → first_ordering 1 m l bits word ≡ refused (Tied (least_penalty m ks l) 0) bits word
  tied_is z = reported_by _ (answer_tied m ks l all enough z)

  met_2 : FirstOrderDemand2 m l bits word (first_ordering 1 m l bits word)
  met_2 =
      let d = demands_code 1 m l x.entries.long in
      ⊎_elim
      (λ (g : 0 < gap m ks l).
      rw (found-is g)
      (record {
        answers = (λ e. g, λ h. refl);
        best = λ e. ((d.demand_2 all _).0 (answer-found m ks l all enough g)).1;
        tied = λ z. absurd (omega arith);
        two_have_it = λ z. absurd (omega arith);
      }))
      (λ (h : gap m ks l ≤ 0).
      let z : gap m ks l ≡ 0 = omega arith in
      rw (tied_is z)
      (record {
        answers = (λ e. absurd (omega arith), λ g. absurd (omega arith));
        best = λ e. absurd (omega arith);
        tied = λ y. refl;
        two_have_it = d.gap-zero.0;
      }))
      (lt_or_le 0 (gap m ks l))

  -- 7 or nothing, by the gap
  tie_decides : Decides (bits ∷ word ∷ []) (view (first_ordering 1 m l bits word)) (check (Tied (least_penalty m ks l) 0) (gap m ks l ≡ 0) passed)
  tie_decides =
      ⊎_elim
      (λ (g : 0 < gap m ks l). inr (λ z. omega arith, rw (found-is g) (refl, refl)))
      (λ (h : gap m ks l ≤ 0). let z : gap m ks l ≡ 0 = omega arith in inl (z, ap view (tied_is z)))
      (lt_or_le 0 (gap m ks l))

-- ---- demand 1
module _ (m : ℕ) (l : List ℤ) (bits word : List ℕ) where
  first_decides : (r : ℕ) → Decides (bits ∷ word ∷ []) (view (first_ordering r m l bits word)) (first_order_checks r m l bits word)
  first_decides r =
      elim (ℕ_discrete r 1) [
        | yes e ↦ rw e
            (inr (
              λ f. f refl,
              decides_readings 1 m l (length bits) (length word) (bits ∷ word ∷ []) (view (first_ordering 1 m l bits word))
                  (check (Tied (least_penalty m (kinds 1 m) l) 0) (gap m (kinds 1 m) l ≡ 0) passed)
                  (λ why f. ap view (sym (first-order 1 m l bits word refl) ∙ sym (test_refused 1 m l bits word why f)))
                  (tie_decides bits word),
            ))
        | no f ↦ inl (f, ap view (sym (other_order r m l bits word f)))
      ]

  pub first_order_demand_1 : (r : ℕ) → FirstOrderDemand1 r m l bits word
  first_order_demand_1 r =
      demand_1 (bits ∷ word ∷ []) (view (first_ordering r m l bits word)) (first_order_checks r m l bits word) (first_decides r)

  -- ---- compared with the search
  not_out : (searching 1 m (tree (kinds 1 m)) l bits word).number ≡ 6 → ⊥
  not_out n =
      let all = tree (kinds 1 m) in
      elim (decided 1 m l (length bits) (length word)) [
        | allows c e is a ↦
            (outcome_demands bits word (subst (λ (d : Code). SoundReadings d l (length bits) (length word)) is a)).whole_tree all (le_refl all) n
        | refuses why e k ↦ absurd (omega (arith, k, n, ap (λ (o : Outcome). o.number) (searching-refused 1 m all l bits word why e)))
      ]

  number_of : (r : ℕ) → (first_ordering r m l bits word).number ≡ 6 → ⊥
  number_of r n =
      elim (ℕ_discrete r 1) [
        | yes e ↦ not_out (ap (λ (o : Outcome). o.number) (first-order r m l bits word e) ∙ n)
        | no f ↦ absurd (omega (arith, n, ap (λ (o : Outcome). o.number) (other_order r m l bits word f)))
      ]

  visits_of : (r : ℕ) → (first_ordering r m l bits word).visits ≡ 0
  visits_of r =
      elim (ℕ_discrete r 1) [
        | yes e ↦ sym (ap (λ (o : Outcome). o.visits) (first-order r m l bits word e))
        | no f ↦ sym (ap (λ (o : Outcome). o.visits) (other_order r m l bits word f))
      ]

  pub first_order-as_search : FirstOrderAsSearch m l bits word
  first_order-as_search = record {
    as_search_lem = λ allowed h.
        let kept = larger_allowance 1 m l bits word (tree (kinds 1 m)) allowed h not_out in
        sym (first-order 1 m l bits word refl) ∙ sym (ap (λ (o : RunnerUpOutcome). without_visits o.outcome) kept);
    never_out = number_of;
    no_visits_lem = visits_of;
  }

-- ---- demands 2 and 3
plus-without : {b c : List ℕ} {o o' : Outcome} → PlusWord b c o o' → PlusWord b c (without_visits o) (without_visits o')
plus-without p = record {
  same_number = p.same_number;
  same_penalty = p.same_penalty;
  same_gap = p.same_gap;
  bits_added = p.bits_added;
  word_added = p.word_added;
}

pub first_order_demands : {m : ℕ} {l : List ℤ} (bits word : List ℕ) → SoundSearch 1 m l bits word → FirstOrderDemands m l bits word
first_order_demands {m} {l} bits word x = record {
  demand_2 = met_2 bits word x;
  demand_3 = λ c w bits' word' e f.
      let t = tree (kinds 1 m) in
      let three = (outcome_demands bits word x).demand_3 c w bits' word' e f in
      let never = (outcome_demands bits word x).whole_tree t (le_refl t) in
      let never' = (outcome_demands bits' word' three.sound).whole_tree t (le_refl t) in
      record {
        sound = three.sound;
        together =
            rw (sym (first-order 1 m l bits word refl), sym (first-order 1 m (turns c l) bits' word' refl)) (plus-without (three.together t t never never'));
      };
}

pub still_fits : StillFits
still_fits =
    record {
      largest-sum = refl;
      below = omega arith;
      fits = λ l long within. omega (arith, (transform_theorems largest_m).twice_in_range largest_reading l long within);
    }
