-- The demands on the early answer are met.
use Rattle.std.specs.Prelude.{◌≡◌, refl, Bool, true, false, cond, List, [], ℕ, ◌^◌, ◌≤◌, ◌<◌, ℤ, length}
use Rattle.std.proofs.Common.{ap, sym, ◌∙◌, ⊎_elim, arith, le_refl, eq-eqb, ne_eqb}
use Rattle.std.proofs.Math.Decide.{ℕ_discrete}
use Rattle.numbers.specs.Choice.{lt_or_le, cond_by}
use Rattle.words.specs.Kinds.{kinds, dimension, Word}
use Rattle.words.proofs.KindLaws.{sum_kinds_pos}
use Rattle.decoding.specs.Readings.{turns}
use Rattle.decoding.specs.Quick.{quick_word, quick_bits, quick_penalty}
use Rattle.decoding.specs.Best.{least_penalty, gap, best_bits, best_word}
use Rattle.decoding.specs.Walk.{start, needed, tree, NeverZero}
use Rattle.decoding.specs.Answer.{Answer, found, tied, out_of_visits, answer}
use Rattle.decoding.specs.AnswerLaws.{answer_out, answer_tied, answer-found}
use Rattle.decoding.specs.Demands.{BestFound}
use Rattle.decoding.proofs.DemandsMet.{demands_code}
use Rattle.sure.specs.Sure.{largest, SurelyRight}
use Rattle.sure.specs.Test.{passes}
use Rattle.sure.proofs.SureLaws.{inside_code}
use Rattle.sure.proofs.TestLaws.{passes_right, passes-turned, quick_word-turned, quick_bits-turned, quick_penalty-turned}
use Rattle.code.specs.Sound.{rm}
use Rattle.code.specs.AdmittedLaws.{allows, refuses, decided}
use Rattle.code.specs.RefusalLaws.{number_above}
use Rattle.search.specs.Outcome.{Outcome, found_with, by_answer, searching}
use Rattle.search.specs.OutcomeLaws.{searching-refused, searching_answered}
use Rattle.search.specs.Demands.{SoundSearch, PlusWord, OutcomeDemand3}
use Rattle.search.specs.DemandsMet.{answered_kept, outcome_demands}
use Rattle.early.specs.Outcome.{word_only, early_by, answering}
use Rattle.early.proofs.OutcomeLaws.{answering-refused, answering_sound}
use Rattle.early.proofs.WayLaws.{true_or_false, passed_is, failed_is}
use Rattle.early.specs.Demands.{EarlyAnswer, EarlyLargerAllowance, EarlyDemand3}

-- ---- outcomes that on success give only the word
only_number : (o : Outcome) → (word_only o).number ≡ o.number
only_number o =
    elim (ℕ_discrete o.number 0) [
      | yes e ↦ rw (eq-eqb o.number 0 e) (sym e)
      | no f ↦ rw (ne_eqb o.number 0 f)
    ]

only_refused : (o : Outcome) → ((word_only o).number ≡ 0 → ⊥) → word_only o ≡ o
only_refused o n = rw (ne_eqb o.number 0 (λ e. n (only_number o ∙ e)))

-- ---- the search's answer, case by case
module _ (m : ℕ) (ks : List ℕ) (l : List ℤ) (allowed : ℕ) (P : Answer → Type 0) where
  by_answer_lem : P out_of_visits → P (tied (least_penalty m ks l) (needed m ks l))
      → (needed m ks l ≤ allowed → 0 < gap m ks l → P (found (best_bits m ks l) (best_word m ks l) (least_penalty m ks l) (gap m ks l) (needed m ks l)))
      → P (answer m ks l allowed)
  by_answer_lem out tie best =
      ⊎_elim
      (λ k. rw (answer_out m ks l allowed k) out)
      (λ k.
      ⊎_elim
      (λ g. rw (answer-found m ks l allowed k g) (best k g))
      (λ g. let none : gap m ks l ≡ 0 = omega arith in rw (answer_tied m ks l allowed k none) tie)
      (lt_or_le 0 (gap m ks l)))
      (lt_or_le allowed (needed m ks l))

-- ---- once the input is sound
module _ (r m allowed : ℕ) (l : List ℤ) (bits word : List ℕ) (h : r ≤ m) (long : length l ≡ 2 ^ m) where
  abbrev ks : List ℕ
  ks = kinds r m

  abbrev searched : Outcome
  searched = by_answer allowed bits word (answer m ks l allowed)

  right : passes r m ks l ≡ true → SurelyRight (largest l) r m ks l (quick_word m ks l) (quick_bits m ks l)
  right e = passes_right r m ks h (inside_code r m) l long e

  -- the test passes
  quick_best : passes r m ks l ≡ true → BestFound m ks l (quick_bits m ks l) (quick_word m ks l) (quick_penalty m ks l) (gap m ks l)
  unfolding quick_penalty
  quick_best e =
      let all = tree ks in
      (((demands_code r m l long).demand_2 all _).0 ((right e).answered (sum_kinds_pos r m) all (le_refl all))).1

  quick_as_search : passes r m ks l ≡ true → searched.number ≡ 0
      → found_with (quick_penalty m ks l) 0 0 (quick_bits m ks l) (quick_word m ks l) ≡ word_only searched
  unfolding quick_penalty
  quick_as_search e =
      by_answer_lem m ks l allowed
      (λ (a : Answer). (by_answer allowed bits word a).number ≡ 0
      → found_with (quick_penalty m ks l) 0 0 (quick_bits m ks l) (quick_word m ks l) ≡ word_only (by_answer allowed bits word a))
      (λ z. absurd (omega arith))
      (λ z. absurd (omega arith))
      (λ k g z. rw ((right e).best_bits_lem, (right e).best_word_lem, (right e).least_penalty_lem))

  -- it does not
  search_best : (word_only searched).number ≡ 0
      → BestFound m ks l (word_only searched).bits (word_only searched).word (word_only searched).penalty (gap m ks l)
  search_best =
      by_answer_lem m ks l allowed
      (λ (a : Answer). let o = word_only (by_answer allowed bits word a) in o.number ≡ 0 → BestFound m ks l o.bits o.word o.penalty (gap m ks l))
      (λ z. absurd (omega arith))
      (λ z. absurd (omega arith))
      (λ k g z. (((demands_code r m l long).demand_2 allowed _).0 (answer-found m ks l allowed k g)).1)

  sound_answer : EarlyAnswer r m l (early_by (rm r m) allowed l bits word) searched
  sound_answer =
      cond_by (λ (o : Outcome). EarlyAnswer r m l o searched) (passes r m ks l) _ _
      (λ e.
      record {
        best = λ z. quick_best e;
        as_search_lem = quick_as_search e;
        refused-as_search = λ n. absurd (n refl);
        not-passed = λ k. absurd (omega arith);
      })
      (λ e. record { best = search_best; as_search_lem = λ z. refl; refused-as_search = only_refused searched; not-passed = λ k. e })

-- ---- for every input of the call
pub early-answer : (r m allowed : ℕ) (l : List ℤ) (bits word : List ℕ)
    → EarlyAnswer r m l (answering r m allowed l bits word) (searching r m allowed l bits word)
early-answer r m allowed l bits word =
    elim (decided r m l (length bits) (length word)) [
      | allows c e is a ↦ rw (answering_sound r m allowed l bits word c e, searching_answered r m allowed l bits word c e, is)
          (sound_answer r m allowed l bits word (rw is at a.sound.r_small) (rw is at a.entries.long))
      | refuses why e k ↦ rw (answering-refused r m allowed l bits word why e, searching-refused r m allowed l bits word why e)
          (record {
            best = λ z. absurd (omega (arith, number_above why, z));
            as_search_lem = λ z. absurd (omega (arith, number_above why, z));
            refused-as_search = λ n. refl;
            not-passed = λ j. absurd (omega (arith, k, j));
          })
    ]

-- ---- a larger allowance
-- without a walk the allowance is not looked at, otherwise it is the search's
way_kept : (b : Bool) (at_once s s' : Outcome) → ((s.number ≡ 6 → ⊥) → s' ≡ s) → ((cond b at_once (word_only s)).number ≡ 6 → ⊥)
    → cond b at_once (word_only s') ≡ cond b at_once (word_only s)
way_kept true at_once s s' f n = refl
way_kept false at_once s s' f n = ap word_only (f (λ e. n (only_number s ∙ e)))

pub early_larger_allowance : (r m : ℕ) (l : List ℤ) (bits word : List ℕ) → EarlyLargerAllowance r m l bits word
early_larger_allowance r m l bits word allowed more h =
    elim (decided r m l (length bits) (length word)) [
      | allows c e is a ↦ rw (answering_sound r m allowed l bits word c e, answering_sound r m more l bits word c e)
          (way_kept (passes c.r c.m (kinds c.r c.m) l) _ _ _ (answered_kept c.m (kinds c.r c.m) l bits word allowed more h))
      | refuses why e k ↦ rw (answering-refused r m allowed l bits word why e, answering-refused r m more l bits word why e) (λ n. refl)
    ]

-- ---- demand 3
only_plus : (b c : List ℕ) (o o' : Outcome) → PlusWord b c o o' → PlusWord b c (word_only o) (word_only o')
only_plus b c o o' p =
    elim (ℕ_discrete o.number 0) [
      | yes e ↦ rw (eq-eqb o.number 0 e, eq-eqb o'.number 0 (p.same_number ∙ e))
          (record {
            same_number = refl;
            same_penalty = p.same_penalty;
            same_gap = refl;
            bits_added = λ z. p.bits_added e;
            word_added = λ z. p.word_added e;
          })
      | no f ↦ rw (ne_eqb o.number 0 f, ne_eqb o'.number 0 (λ e. f (sym p.same_number ∙ e))) p
    ]

only_visits : (o o' : Outcome) → o'.number ≡ o.number → o'.visits ≡ o.visits → (word_only o').visits ≡ (word_only o).visits
only_visits o o' n v =
    elim (ℕ_discrete o.number 0) [
      | yes e ↦ rw (eq-eqb o.number 0 e, eq-eqb o'.number 0 (n ∙ e))
      | no f ↦ rw (ne_eqb o.number 0 f, ne_eqb o'.number 0 (λ e. f (sym n ∙ e))) v
    ]

module _ {r m : ℕ} {l : List ℤ} (bits word : List ℕ) (x : SoundSearch r m l bits word) (c : List ℕ) (w : Word m (kinds r m) c) (bits' word' : List ℕ)
    (e : length bits' ≡ dimension r m) (f : length word' ≡ 2 ^ m) where
  abbrev turned : List ℤ
  turned = turns c l

  abbrev of_code : List ℕ
  of_code = kinds r m

  searches : OutcomeDemand3 r m l w.bits c bits word bits' word'
  searches = (outcome_demands bits word x).demand_3 c w bits' word' e f

  same_test : passes r m of_code turned ≡ passes r m of_code l
  same_test = passes-turned r m of_code x.sound.r_small (inside_code r m) l x.entries.long c w

  both_at_once : passes r m of_code l ≡ true → (allowed allowed' : ℕ)
      → PlusWord w.bits c (answering r m allowed l bits word) (answering r m allowed' turned bits' word')
  both_at_once p allowed allowed' =
      let q = same_test ∙ p in
      let inside = inside_code r m in
      rw (passed_is bits word x allowed p, passed_is bits' word' searches.sound allowed' q)
      (record {
        same_number = refl;
        same_penalty = quick_penalty-turned r m of_code x.sound.r_small inside l x.entries.long c w p;
        same_gap = refl;
        bits_added = λ z. quick_bits-turned r m of_code x.sound.r_small inside l x.entries.long c w p;
        word_added = λ z. quick_word-turned r m of_code x.sound.r_small inside l x.entries.long c w p;
      })

  -- if the test does not pass: as the search, of whose answer only the word is kept
  module _ (p : passes r m of_code l ≡ false) where
    first-is : (allowed : ℕ) → answering r m allowed l bits word ≡ word_only (searching r m allowed l bits word)
    first-is allowed = failed_is bits word x allowed p

    second_is : (allowed : ℕ) → answering r m allowed turned bits' word' ≡ word_only (searching r m allowed turned bits' word')
    second_is allowed = failed_is bits' word' searches.sound allowed (same_test ∙ p)

    not_six : (o s : Outcome) → o ≡ word_only s → (o.number ≡ 6 → ⊥) → s.number ≡ 6 → ⊥
    not_six o s is n z = n (ap (λ (t : Outcome). t.number) is ∙ only_number s ∙ z)

    both_searched : (allowed allowed' : ℕ)
        → ((answering r m allowed l bits word).number ≡ 6 → ⊥) → ((answering r m allowed' turned bits' word').number ≡ 6 → ⊥)
        → PlusWord w.bits c (answering r m allowed l bits word) (answering r m allowed' turned bits' word')
    both_searched allowed allowed' g k =
        let s = searching r m allowed l bits word in
        let s' = searching r m allowed' turned bits' word' in
        let n = not_six (answering r m allowed l bits word) s (first-is allowed) g in
        let n' = not_six (answering r m allowed' turned bits' word') s' (second_is allowed') k in
        rw (first-is allowed, second_is allowed') (only_plus w.bits c s s' (searches.together allowed allowed' n n'))

    same_searched : NeverZero m l of_code [] 0 start → (allowed : ℕ)
        → PlusWord w.bits c (answering r m allowed l bits word) (answering r m allowed turned bits' word')
        × ((answering r m allowed turned bits' word').visits ≡ (answering r m allowed l bits word).visits)
    same_searched never allowed =
        let s = searching r m allowed l bits word in
        let s' = searching r m allowed turned bits' word' in
        let same = searches.same_search never allowed in
        rw (first-is allowed, second_is allowed)
        (only_plus w.bits c s s' same.0, only_visits s s' same.0.same_number same.1)

  pub early_demand_3 : EarlyDemand3 r m l w.bits c bits word bits' word'
  early_demand_3 =
      record {
        sound = searches.sound;
        same_way = same_test;
        at_once = both_at_once;
        together = λ allowed allowed' g k.
            ⊎_elim (λ p. both_at_once p allowed allowed') (λ p. both_searched p allowed allowed' g k) (true_or_false (passes r m of_code l));
        same_answer = λ never allowed.
            ⊎_elim
            (λ p.
            let visits : (answering r m allowed turned bits' word').visits ≡ (answering r m allowed l bits word).visits =
            rw (passed_is bits word x allowed p, passed_is bits' word' searches.sound allowed (same_test ∙ p)) in
            (both_at_once p allowed allowed, visits))
            (λ p. same_searched p never allowed)
            (true_or_false (passes r m of_code l));
      }
