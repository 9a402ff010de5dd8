-- What the search answers once the input is sound (demand 2; docs/RULES.md, §6): one definition over the best word, the gap and the walk's visits.
use Rattle.std.specs.Prelude.{List, cond, ℕ, ℤ, ltb, eqb}
use Rattle.decoding.specs.Best.{least_penalty, gap, best_bits, best_word}
use Rattle.decoding.specs.Walk.{needed}

pub data Answer : Type 0 where
  -- information bits, word, penalty, gap, visits
  found : List ℕ → List ℕ → ℕ → ℕ → ℕ → Answer
  -- least penalty, visits
  tied : ℕ → ℕ → Answer
  out_of_visits : Answer

unfoldable pub answer : ℕ → List ℕ → List ℤ → ℕ → Answer
answer m ks l allowed =
    cond (ltb allowed (needed m ks l)) out_of_visits
    (cond (eqb (gap m ks l) 0) (tied (least_penalty m ks l) (needed m ks l))
    (found (best_bits m ks l) (best_word m ks l) (least_penalty m ks l) (gap m ks l) (needed m ks l)))
