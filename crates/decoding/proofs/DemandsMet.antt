-- The demands on the search are met, for every row of kinds that has an information index, and so for every RM(r,m).
use Rattle.std.specs.Prelude.{◌≡◌, refl, ◌↔◌, List, [], ℕ, ◌+◌, ◌^◌, ◌≤◌, ◌<◌, length, ℤ}
use Rattle.std.proofs.Math.Path.{ap}
use Rattle.std.proofs.Common.{sym, ◌∙◌, subst, ⊎_elim, arith, add-zero}
use Rattle.numbers.specs.Choice.{lt_or_le}
use Rattle.numbers.specs.Sums.{sum}
use Rattle.words.specs.Bits.{Bits, xors}
use Rattle.words.specs.Kinds.{kinds, fill, encoded, InformationBits, Word, all_ones}
use Rattle.words.specs.Inverse.{taken, taken_back}
use Rattle.words.proofs.KindLaws.{length-kinds, bits_kinds, sum-kinds, sum_kinds_pos}
use Rattle.words.proofs.FillLaws.{length-fill, bits_fill}
use Rattle.words.specs.PublishedLaws.{word_by_index_lem, word_by_matrix_lem}
use Rattle.words.proofs.PolynomialLaws.{word_polynomial, polynomial_word}
use Rattle.words.proofs.HalfLaws.{word_ones}
use Rattle.words.proofs.InverseLaws.{word-length, taken_encoded, taken_gives, refused_lowest, lowest_refused, refused_no_word, no_word_refused}
use Rattle.decoding.specs.Readings.{penalty, turns}
use Rattle.decoding.specs.Best.{penalty_of, least_penalty, gap, best_bits, best_word, TwoWords}
use Rattle.decoding.specs.Walk.{State, start, needed, NeverZero}
use Rattle.decoding.specs.Answer.{Answer, found, tied, out_of_visits, answer}
use Rattle.decoding.specs.BestLaws.{none_less, best_bits_are, best_attains, best_only, others_more}
use Rattle.decoding.proofs.WalkLaws.{best_two}
use Rattle.decoding.specs.AnswerLaws.{answer_out, answer_tied, answer-found}
use Rattle.decoding.proofs.SearchLaws.{tree_enough}
use Rattle.decoding.specs.TurnLaws.{length-turns, within_turns}
use Rattle.decoding.specs.TurnedBest.{least-turned, gap-turned, best_bits-turned, best_word-turned}
use Rattle.decoding.specs.TurnedWalk.{walked-turned}
use Rattle.decoding.specs.AllOnes.{turns-ones, needed-negated}
use Rattle.decoding.specs.Demands.{Published, PublishedCode, BestFound, BestTied, Demand2}
use Rattle.decoding.specs.Demands.{Together, both_tied, both_found, plus_word, Demand3, Demand3AllOnes, Demands}

-- ---- Demand 2
module _ (m : ℕ) (ks : List ℕ) (l : List ℤ) (e : length l ≡ 2 ^ m) (f : length ks ≡ 2 ^ m) (kinds : Bits ks) (information : 0 < sum ks) where
  best_of_two : TwoWords m ks l (least_penalty m ks l) (least_penalty m ks l + gap m ks l)
  best_of_two = best_two m ks l e f kinds information

  best_found : 0 < gap m ks l → BestFound m ks l (best_bits m ks l) (best_word m ks l) (least_penalty m ks l) (gap m ks l)
  unfolding best_word
  best_found above =
      let r = best_of_two in
      record {
        information = best_bits_are m ks l;
        gives = refl;
        has = best_attains m ks l;
        above = above;
        others = others_more m ks l information;
        next = (
          r.second,
          r.second_bits,
          λ z. omega (arith, r.second-has, ap (penalty_of m ks l) z, best_attains m ks l),
          r.second-has,
        );
      }

  word_of_best : (b : List ℕ) → b ≡ best_bits m ks l → encoded m ks b ≡ best_word m ks l
  unfolding best_word
  word_of_best b z = ap (encoded m ks) z

  best_tied : gap m ks l ≡ 0 → BestTied m ks l (least_penalty m ks l)
  best_tied none =
      record {
        none_less = none_less m ks l;
        two = subst (TwoWords m ks l (least_penalty m ks l)) (ap (λ (g : ℕ). least_penalty m ks l + g) none ∙ add-zero (least_penalty m ks l)) best_of_two;
      }

  -- the least penalty of all words, from what is said about the best one
  found-least : (b x : List ℕ) (p g : ℕ) → BestFound m ks l b x p g → p ≡ least_penalty m ks l
  found-least b x p g r =
      let best = best_bits m ks l in
      let own : penalty_of m ks l b ≡ p = ap (penalty l) r.gives ∙ r.has in
      ⊎_elim
      (λ h.
      let other : best ≡ b → ⊥ = λ z. omega (arith, own, ap (penalty_of m ks l) z, best_attains m ks l) in
      absurd (omega (arith, r.others best (best_bits_are m ks l) other, best_attains m ks l)))
      (λ h. omega (arith, none_less m ks l b r.information, own))
      (lt_or_le (least_penalty m ks l) p)

  found_above : (b x : List ℕ) (p g : ℕ) → BestFound m ks l b x p g → 0 < gap m ks l
  found_above b x p g r =
      let t = best_of_two in
      let p_least = found-least b x p g r in
      let is_b : (c : List ℕ) → InformationBits ks c → penalty_of m ks l c ≡ p → (c ≡ b → ⊥) → ⊥ = λ c h z other. omega (arith, r.others c h other, r.above) in
      ⊎_elim (λ h. h)
      (λ h.
      absurd
      (is_b t.first t.first_bits (t.first-has ∙ sym p_least)
      (λ z. is_b t.second t.second_bits (omega (arith, t.second-has)) (λ y. t.differ (z ∙ sym y)))))
      (lt_or_le 0 (gap m ks l))

  found_only : (allowed : ℕ) (b x : List ℕ) (p g visits : ℕ) → needed m ks l ≤ allowed → BestFound m ks l b x p g → visits ≡ needed m ks l
      → answer m ks l allowed ≡ found b x p g visits
  found_only allowed b x p g visits in_time r same =
      let t = best_of_two in
      let p_is : p ≡ least_penalty m ks l = found-least b x p g r in
      let above = found_above b x p g r in
      let own : penalty_of m ks l b ≡ p = ap (penalty l) r.gives ∙ r.has in
      let b-is : b ≡ best_bits m ks l = best_only m ks l information above b r.information (own ∙ p_is) in
      let x_is : x ≡ best_word m ks l = sym r.gives ∙ word_of_best b b-is in
      let no_more : p + g ≤ least_penalty m ks l + gap m ks l =
      rw (← t.second-has) (r.others t.second t.second_bits (λ z. omega (arith, t.second-has, ap (penalty_of m ks l) z, own))) in
      let no_less : least_penalty m ks l + gap m ks l ≤ p + g =
      rw (← r.next.3) (others_more m ks l information r.next.0 r.next.1 (λ z. r.next.2 (z ∙ sym b-is))) in
      let g_is : g ≡ gap m ks l = omega (arith, p_is, no_more, no_less) in
      rw (g_is, p_is, x_is, b-is, same) (answer-found m ks l allowed in_time above)

  tied_least : (p : ℕ) → BestTied m ks l p → p ≡ least_penalty m ks l
  tied_least p r =
      let t = r.two in
      omega (
        arith,
        r.none_less (best_bits m ks l) (best_bits_are m ks l),
        best_attains m ks l,
        none_less m ks l t.first t.first_bits,
        t.first-has,
      )

  tied_none : (p : ℕ) → BestTied m ks l p → gap m ks l ≡ 0
  tied_none p r =
      let t = r.two in
      let only : 0 < gap m ks l → (c : List ℕ) → InformationBits ks c → penalty_of m ks l c ≡ p → c ≡ best_bits m ks l = λ h c i z.
      best_only m ks l information h c i (z ∙ tied_least p r) in
      ⊎_elim
      (λ h. absurd (t.differ (only h t.first t.first_bits t.first-has ∙ sym (only h t.second t.second_bits t.second-has))))
      (λ h. omega arith)
      (lt_or_le 0 (gap m ks l))

  tied_only : (allowed p visits : ℕ) → needed m ks l ≤ allowed → BestTied m ks l p → visits ≡ needed m ks l → answer m ks l allowed ≡ tied p visits
  tied_only allowed p visits in_time r same = rw (tied_least p r, same) (answer_tied m ks l allowed in_time (tied_none p r))

  answered : (allowed : ℕ) → Demand2 m ks l allowed (answer m ks l allowed)
  answered allowed =
      ⊎_elim (λ h. rw (answer_out m ks l allowed h) h)
      (λ h.
      ⊎_elim (λ k. rw (answer-found m ks l allowed h k) (h, best_found k, refl))
      (λ k.
      let none : gap m ks l ≡ 0 = omega arith in
      rw (answer_tied m ks l allowed h none) (h, best_tied none, refl))
      (lt_or_le 0 (gap m ks l)))
      (lt_or_le allowed (needed m ks l))

  pub demand_2 : (allowed : ℕ) (a : Answer) → (answer m ks l allowed ≡ a) ↔ Demand2 m ks l allowed a
  demand_2 allowed (found b x p g visits) =
      (λ z. subst (Demand2 m ks l allowed) z (answered allowed), λ r. found_only allowed b x p g visits r.0 r.1 r.2)
  demand_2 allowed (tied p visits) = (λ z. subst (Demand2 m ks l allowed) z (answered allowed), λ r. tied_only allowed p visits r.0 r.1 r.2)
  demand_2 allowed out_of_visits = (λ z. subst (Demand2 m ks l allowed) z (answered allowed), answer_out m ks l allowed)

-- ---- Demand 3
-- an answer that is not out of visits had enough of them
enough : (m : ℕ) (ks : List ℕ) (l : List ℤ) (allowed : ℕ) → (answer m ks l allowed ≡ out_of_visits → ⊥) → needed m ks l ≤ allowed
enough m ks l allowed in_time = ⊎_elim (λ h. absurd (in_time (answer_out m ks l allowed h))) (λ h. h) (lt_or_le allowed (needed m ks l))

out_plus : (bits c : List ℕ) (a : Answer) → (plus_word bits c a ≡ out_of_visits) ↔ (a ≡ out_of_visits)
out_plus bits c (found b x penalty gap visits) = (λ e. cc, λ e. cc)
out_plus bits c (tied penalty visits) = (λ e. e, λ e. e)
out_plus bits c out_of_visits = (λ e. e, λ e. e)

module _ (m : ℕ) (ks : List ℕ) (l : List ℤ) (c : List ℕ) (g : length ks ≡ 2 ^ m) (e : length l ≡ 2 ^ m) (w : Word m ks c) where
  by_gap : {A : Type 0} → (gap m ks l ≡ 0 → A) → (0 < gap m ks l → A) → A
  by_gap none some = ⊎_elim some (λ h. none (omega arith)) (lt_or_le 0 (gap m ks l))

  -- the answer for the negated readings
  module _ (allowed : ℕ) (in_time : needed m ks (turns c l) ≤ allowed) where
    negated_tied : gap m ks l ≡ 0 → answer m ks (turns c l) allowed ≡ tied (least_penalty m ks l) (needed m ks (turns c l))
    negated_tied z = rw (answer_tied m ks (turns c l) allowed in_time (gap-turned m ks l c g e w ∙ z), least-turned m ks l c g e w)

    negated-found : 0 < gap m ks l → answer m ks (turns c l) allowed
        ≡ found (xors (best_bits m ks l) w.bits) (xors (best_word m ks l) c) (least_penalty m ks l) (gap m ks l) (needed m ks (turns c l))
    negated-found z =
        rw (
          answer-found m ks (turns c l) allowed in_time (rw (gap-turned m ks l c g e w) z),
          best_bits-turned m ks l c g e w z,
          best_word-turned m ks l c g e w z,
          least-turned m ks l c g e w,
          gap-turned m ks l c g e w,
        )

  answers_together : (allowed allowed' : ℕ) → needed m ks l ≤ allowed → needed m ks (turns c l) ≤ allowed'
      → Together w.bits c (answer m ks l allowed) (answer m ks (turns c l) allowed')
  answers_together allowed allowed' h h' =
      let n = needed m ks l in
      let n' = needed m ks (turns c l) in
      by_gap
      (λ z. rw (answer_tied m ks l allowed h z, negated_tied allowed' h' z) (both_tied (least_penalty m ks l) n n'))
      (λ z. rw (answer-found m ks l allowed h z, negated-found allowed' h' z)
      (both_found (best_bits m ks l) (best_word m ks l) (least_penalty m ks l) (gap m ks l) n n'))

  -- with as many visits, the whole answer
  answers_equal : needed m ks (turns c l) ≡ needed m ks l → (allowed : ℕ) → answer m ks (turns c l) allowed ≡ plus_word w.bits c (answer m ks l allowed)
  answers_equal same allowed =
      ⊎_elim
      (λ h. rw (answer_out m ks l allowed h, answer_out m ks (turns c l) allowed (rw same h)))
      (λ h.
      by_gap
      (λ z. rw (answer_tied m ks l allowed h z, negated_tied allowed (rw same h) z, same))
      (λ z. rw (answer-found m ks l allowed h z, negated-found allowed (rw same h) z, same)))
      (lt_or_le allowed (needed m ks l))

  pub demand_3 : Demand3 m ks l c w.bits
  demand_3 =
      let visits : NeverZero m l ks [] 0 start → needed m ks (turns c l) ≡ needed m ks l =
      λ never. ap (λ (s : State). s.visits) (walked-turned m ks l c g e w never) in
      record {
        same_length = length-turns c l (word-length m ks c g w ∙ sym e);
        readings_allowed = λ largest h. within_turns largest c l h;
        together = λ allowed allowed' h h'. answers_together allowed allowed' (enough m ks l allowed h) (enough m ks (turns c l) allowed' h');
        same_visits = visits;
        both_run_out = λ never allowed. rw (answers_equal (visits never) allowed) (out_plus w.bits c (answer m ks l allowed));
        same_answer = λ never. answers_equal (visits never);
      }

pub demand_3_all_ones : (m : ℕ) (ks : List ℕ) (l : List ℤ) → length ks ≡ 2 ^ m → length l ≡ 2 ^ m → (w : Word m ks (all_ones m))
    → Demand3AllOnes m ks l w.bits
demand_3_all_ones m ks l g e w =
    let negated = turns-ones (2 ^ m) l e in
    let visits = needed-negated m ks l g e w in
    record {
      all-negated = negated;
      same_visits = rw (← negated) visits;
      same_answer = λ allowed. rw (← negated) (answers_equal m ks l (all_ones m) g e w visits allowed);
    }

-- ---- all of them
-- encoding and taking back
published : (m : ℕ) (ks : List ℕ) → length ks ≡ 2 ^ m → Bits ks → Published m ks
published m ks e h =
    let row : (b : List ℕ) → length (fill ks b) ≡ 2 ^ m = λ b. length-fill ks b ∙ e in
    record {
      by_index = λ b i. sym (word_by_index_lem m (fill ks b) (row b) (bits_fill ks b i.1));
      by_matrix = λ b i. sym (word_by_matrix_lem m (fill ks b) (row b) (bits_fill ks b i.1));
      taking_back_lem = λ x b f c. (
        λ t. let r = taken_gives m ks x e h f c b t in ((r.0, r.1), r.2),
        λ r. subst (λ (y : List ℕ). taken_back m ks y ≡ taken b) r.1 (taken_encoded m ks b e h r.0.0 r.0.1),
      );
      refusing = λ x f c. (λ t. refused_no_word m ks x e h f c t.0 t.1, no_word_refused m ks x e h f c);
      place = λ x i f c. rw (word_by_index_lem m x f c) (lowest_refused m ks x e h f c i, refused_lowest m ks x e h f c i);
    }

pub published_code : (r m : ℕ) → PublishedCode r m
published_code r m = record { k-is = sum-kinds r m; words_are = λ x. (word_polynomial r m x, polynomial_word r m x) }

pub demands : (m : ℕ) (ks : List ℕ) (l : List ℤ) → length l ≡ 2 ^ m → length ks ≡ 2 ^ m → Bits ks → 0 < sum ks → Demands m ks l
demands m ks l e f kinds information =
    record {
      published = published m ks f kinds;
      demand_2 = demand_2 m ks l e f kinds information;
      gap-zero = (best_tied m ks l e f kinds information, tied_none m ks l e f kinds information (least_penalty m ks l));
      demand_3 = λ c w. demand_3 m ks l c f e w;
      whole_tree = λ allowed. tree_enough m ks l allowed kinds;
      demand_3_all_ones = λ w. demand_3_all_ones m ks l f e w;
    }

-- for RM(r,m), which always has the all-ones word
module _ (r m : ℕ) (l : List ℤ) (e : length l ≡ 2 ^ m) where
  pub demands_code : Demands m (kinds r m) l
  demands_code = demands m (kinds r m) l e (length-kinds r m) (bits_kinds r m) (sum_kinds_pos r m)

  pub negated_code : Demand3AllOnes m (kinds r m) l (word_ones r m).bits
  negated_code = demands_code.demand_3_all_ones (word_ones r m)
