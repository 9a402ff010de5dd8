-- The answer read off the walk under an allowance, as a search does it; and what a larger allowance changes.
use Rattle.std.specs.Prelude.{◌≡◌, refl, ◌↔◌, cond, List, [], ◌∷◌, ℕ, zero, suc, ◌-◌, ◌^◌, ◌≤◌, ◌<◌, length, ℤ, eqb}
use Rattle.std.proofs.Common.{ap, sym, ◌∙◌, subst, arith, le_trans, not-suc-le-zero}
use Rattle.std.proofs.Math.Logic.{⊎_elim}
use borrow.Author.Tests.{eq-eqb, ne_eqb, le-ltb}
use Rattle.numbers.specs.Choice.{cond_by, lt_or_le}
use Rattle.numbers.specs.Sums.{sum}
use Rattle.words.specs.Bits.{Bits}
use Rattle.words.specs.Word.{transform}
use Rattle.words.specs.Kinds.{pick}
use Rattle.decoding.specs.Best.{gap}
use Rattle.decoding.specs.Walk.{Full, two, State, start, needed, tree}
use Rattle.decoding.specs.Allowance.{Limited, ended, out, walk_within}
use Rattle.decoding.specs.Answer.{Answer, found, tied, out_of_visits, answer}
use Rattle.decoding.specs.AnswerLaws.{answer_out, answer_tied, answer-found}
use Rattle.decoding.specs.WalkLaws.{WalkEnd}
use Rattle.decoding.proofs.WalkLaws.{walked_end, walked_two, best_bits_lem, best_word_lem}
use Rattle.decoding.specs.TreeLaws.{needed_most}
use Rattle.decoding.specs.AllowanceLaws.{within_ends, within_out}
use Rattle.decoding.specs.SearchLaws.{EndsAs}

-- ---- the walk's end and the answer
abbrev end_of : Limited → State
end_of (ended s) = s
end_of out = start

abbrev Ends : Limited → Type 0
Ends (ended s) = Unit {0}
Ends out = ⊥

module _ (m : ℕ) (ks : List ℕ) (l : List ℤ) (allowed : ℕ) where
  pub ends_as : (s : State) → walk_within allowed m l ks [] 0 start ≡ ended s → EndsAs m ks l allowed s
  ends_as s e =
      ⊎_elim (λ h. absurd (subst Ends (sym e ∙ within_out allowed m ks l h) tt))
      (λ h. record { in_time = h; same = ap end_of (sym (within_ends allowed m ks l h) ∙ e) }) (lt_or_le allowed (needed m ks l))

  pub answer_of_out : walk_within allowed m l ks [] 0 start ≡ out → answer m ks l allowed ≡ out_of_visits
  answer_of_out e =
      ⊎_elim (answer_out m ks l allowed) (λ h. absurd (subst Ends (sym (within_ends allowed m ks l h) ∙ e) tt)) (lt_or_le allowed (needed m ks l))

-- with nothing allowed it is always out of visits
pub none_allowed : (m : ℕ) (ks : List ℕ) (l : List ℤ) → 0 < length ks → answer m ks l 0 ≡ out_of_visits
unfolding walk_within
none_allowed m [] l h = absurd (not-suc-le-zero h)
none_allowed m (zero ∷ ks) l h = answer_of_out m (zero ∷ ks) l 0 refl
none_allowed m (suc k ∷ ks) l h = answer_of_out m (suc k ∷ ks) l 0 refl

module _ (m : ℕ) (ks : List ℕ) (l : List ℤ) (e : length l ≡ 2 ^ m) (f : length ks ≡ 2 ^ m) (kinds : Bits ks) (information : 1 ≤ sum ks) (allowed : ℕ) where
  pub ended_two : (s : State) → walk_within allowed m l ks [] 0 start ≡ ended s → (a : Full) × (b : Full) × (s.held ≡ two a b)
  ended_two s h =
      let r = walked_two m ks l e f kinds information in
      (r.0, r.1, ap (λ (t : State). t.held) (sym (ends_as m ks l allowed s h).same) ∙ r.2)

  pub answer_of-walk : (s : State) (a b : Full) → walk_within allowed m l ks [] 0 start ≡ ended s → s.held ≡ two a b
      → answer m ks l allowed
      ≡ cond (eqb (b.penalty - a.penalty) 0) (tied a.penalty s.visits)
      (found (pick ks a.path) (transform m a.path) a.penalty (b.penalty - a.penalty) s.visits)
  answer_of-walk s a b h k =
      let ran = ends_as m ks l allowed s h in
      let end : WalkEnd m ks l a b = walked_end m ks l e f kinds information a b (ap (λ (t : State). t.held) ran.same ∙ k) in
      let margin : b.penalty - a.penalty ≡ gap m ks l = omega (arith, end.least_penalty_lem, end.next-least) in
      let visits : s.visits ≡ needed m ks l = ap (λ (t : State). t.visits) (sym ran.same) in
      ⊎_elim
      (λ z.
      let bits = best_bits_lem m ks l e f kinds information a b end z in
      let word = best_word_lem m ks l e f kinds information a b end z in
      rw (margin, end.least_penalty_lem, visits, ne_eqb (gap m ks l) 0 (λ i. omega arith), bits, word) (answer-found m ks l allowed ran.in_time z))
      (λ z.
      let none : gap m ks l ≡ 0 = omega arith in
      rw (margin, end.least_penalty_lem, visits, eq-eqb (gap m ks l) 0 none) (answer_tied m ks l allowed ran.in_time none))
      (lt_or_le 0 (gap m ks l))

-- ---- the allowance
abbrev Given : Answer → Type 0
Given (found b x p g v) = Unit {0}
Given (tied p v) = Unit {0}
Given out_of_visits = ⊥

module _ (m : ℕ) (ks : List ℕ) (l : List ℤ) (allowed : ℕ) where
  -- out of visits exactly if the walk needs more than allowed
  pub out_exactly : (answer m ks l allowed ≡ out_of_visits) ↔ (allowed < needed m ks l)
  unfolding answer
  out_exactly =
      let given : needed m ks l ≤ allowed → Given (answer m ks l allowed) = λ h.
      rw (le-ltb allowed (needed m ks l) h) (cond_by Given (eqb (gap m ks l) 0) _ _ (λ e. tt) (λ e. tt)) in
      (λ e. ⊎_elim (λ h. h) (λ h. absurd (subst Given e (given h))) (lt_or_le allowed (needed m ks l)), answer_out m ks l allowed)

  -- a larger allowance never changes an answer that is given
  pub answer_kept : (more : ℕ) → allowed ≤ more → (answer m ks l allowed ≡ out_of_visits → ⊥) → answer m ks l more ≡ answer m ks l allowed
  unfolding answer
  answer_kept more h given =
      ⊎_elim (λ k. absurd (given (out_exactly.1 k)))
      (λ k. rw (le-ltb allowed (needed m ks l) k, le-ltb more (needed m ks l) (le_trans k h))) (lt_or_le allowed (needed m ks l))

  -- the whole tree is always enough
  pub tree_enough : Bits ks → tree ks ≤ allowed → answer m ks l allowed ≡ out_of_visits → ⊥
  tree_enough kinds h e = omega (arith, out_exactly.0 e, needed_most m ks l kinds)
