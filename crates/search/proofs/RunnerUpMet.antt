-- What the runner-up is: on success a word of the next penalty, and under every refusal zeros.
use Rattle.std.specs.Prelude.{◌≡◌, refl, ℕ, ◌+◌, ◌-◌, ◌^◌, ◌≤◌, ◌<◌, ℤ}
use Rattle.std.proofs.Math.Path.{ap, sym}
use Rattle.std.proofs.Common.{◌∙◌, ⊎_elim, arith, ne_eqb}
use mathlib.Core.List.{List, ◌++◌}
use Rattle.std.proofs.Math.ListN.{length, replicate}
use Rattle.numbers.specs.Choice.{lt_or_le}
use Rattle.numbers.specs.Sums.{sum}
use Rattle.words.specs.Bits.{Bits}
use Rattle.words.specs.Word.{transform}
use Rattle.words.specs.Kinds.{kinds, fill, pick}
use Rattle.words.proofs.KindLaws.{length-kinds, bits_kinds, sum_kinds_pos}
use Rattle.words.proofs.FillLaws.{length-pick, bits_pick, fill-pick}
use Rattle.decoding.specs.Readings.{penalty}
use Rattle.decoding.specs.Best.{penalty_of, least_penalty, gap, best_word}
use Rattle.decoding.specs.BestLaws.{best_attains}
use Rattle.decoding.specs.Walk.{needed}
use Rattle.decoding.proofs.WalkLaws.{walked_two, walked_end}
use Rattle.decoding.specs.Answer.{Answer, answer}
use Rattle.decoding.specs.AnswerLaws.{answer_out, answer_tied, answer-found}
use Rattle.code.specs.RefusalLaws.{number_above}
use Rattle.code.specs.AdmittedLaws.{allows, refuses, decided}
use Rattle.search.specs.Outcome.{Outcome, by_answer, searching}
use Rattle.search.specs.OutcomeLaws.{searching-refused}
use Rattle.search.specs.RunnerUp.{second_held, roomy, runner_up, runner_up_outcome_by}
use Rattle.search.specs.Demands.{SoundSearch, RunnerUpShown, RunnerUpDemand}
use Rattle.search.specs.DemandsMet.{sound_answered}

-- ---- over the words of any row of kinds
module _ (m : ℕ) (ks : List ℕ) (l : List ℤ) (e : length l ≡ 2 ^ m) (f : length ks ≡ 2 ^ m) (kinds : Bits ks) (information : 1 ≤ sum ks) where
  -- if the best word is found: the second full path is a row of the code with the next penalty
  shown-beside : (o : Outcome) → 0 < gap m ks l → o.penalty ≡ least_penalty m ks l → o.gap ≡ gap m ks l → o.word ≡ best_word m ks l
      → RunnerUpShown m ks l (record { outcome = o; runner_up = runner_up m ks l })
  unfolding runner_up best_word
  shown-beside o above p g w =
      let r = walked_two m ks l e f kinds information in
      let end = walked_end m ks l e f kinds information r.0 r.1 r.2 in
      let b = end.second_path in
      let v = r.1.path in
      let long : length v ≡ length ks = b.long ∙ sym f in
      let count : length (pick ks v) ≡ sum ks = length-pick ks v kinds long in
      let row : fill ks (pick ks v) ≡ v = fill-pick ks v b.frozen long in
      let has : penalty_of m ks l (pick ks v) ≡ least_penalty m ks l + gap m ks l =
      ap (λ (x : List ℕ). penalty l (transform m x)) row ∙ sym b.has ∙ end.next-least in
      let next : penalty_of m ks l (pick ks v) ≡ o.penalty + o.gap = omega (arith, has, p, g) in
      record {
        bits = pick ks v;
        information = (count, bits_pick ks v b.are_bits);
        shown = ap (λ h. roomy (pick ks (second_held h))) r.2 ∙ ap (λ (n : ℕ). pick ks v ++ replicate {A = ℕ} (256 - n) 0) count;
        has = next;
        another = λ z. omega (arith, has, above, ap (penalty l) (z ∙ w), best_attains m ks l);
        only = λ c h. h (pick ks v) (count, bits_pick ks v b.are_bits) next;
      }

  pub runner_up-shown : (allowed : ℕ) (bits word : List ℕ) → (by_answer allowed bits word (answer m ks l allowed)).number ≡ 0
      → RunnerUpShown m ks l (runner_up_outcome_by m ks l allowed bits word)
  runner_up-shown allowed bits word n =
      let number : Answer → ℕ = λ a. (by_answer allowed bits word a).number in
      ⊎_elim
      (λ h. absurd (omega (arith, ap number (sym (answer_out m ks l allowed h)) ∙ n)))
      (λ h. ⊎_elim
      (λ z. rw (answer-found m ks l allowed h z) (shown-beside _ z refl refl refl))
      (λ z. let none : gap m ks l ≡ 0 = omega arith in absurd (omega (arith, ap number (sym (answer_tied m ks l allowed h none)) ∙ n)))
      (lt_or_le 0 (gap m ks l)))
      (lt_or_le allowed (needed m ks l))

-- ---- for every input of the search
module _ (r m allowed : ℕ) (l : List ℤ) (bits word : List ℕ) where
  -- nothing is found unless tests 1 to 4 refuse nothing
  found_sound : (searching r m allowed l bits word).number ≡ 0 → SoundSearch r m l bits word
  found_sound n =
      elim (decided r m l (length bits) (length word)) [
        | allows c f is a ↦ rw is at a
        | refuses why f h ↦ absurd (omega (
          arith,
          number_above why,
          ap (λ (o : Outcome). o.number) (sym (searching-refused r m allowed l bits word why f)) ∙ n,
        ))
      ]

  pub runner_up_demand : RunnerUpDemand r m allowed l bits word
  runner_up_demand =
      record {
        found = λ n.
            let x = found_sound n in
            let is = sound_answered bits word x allowed in
            rw is
            (runner_up-shown m (kinds r m) l x.entries.long (length-kinds r m) (bits_kinds r m) (sum_kinds_pos r m) allowed bits word
            (ap (λ (o : Outcome). o.number) (sym is) ∙ n));
        refused = λ n. rw (ne_eqb (searching r m allowed l bits word).number 0 n);
      }
