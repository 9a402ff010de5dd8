-- The search's answer by cases: out of visits, tied, found.
use Rattle.std.specs.Prelude.{◌≡◌, ℕ, ◌≤◌, ◌<◌, List, ℤ}
use Rattle.std.proofs.Common.{arith}
use borrow.Author.Tests.{lt-ltb, le-ltb, eq-eqb, ne_eqb}
use Rattle.decoding.specs.Best.{least_penalty, gap, best_bits, best_word}
use Rattle.decoding.specs.Walk.{needed}
use Rattle.decoding.specs.Answer.{found, tied, out_of_visits, answer}

module _ (m : ℕ) (ks : List ℕ) (l : List ℤ) (allowed : ℕ) where
  pub answer_out : allowed < needed m ks l → answer m ks l allowed ≡ out_of_visits
  unfolding answer
  answer_out h = rw (lt-ltb allowed (needed m ks l) h)

  pub answer_tied : needed m ks l ≤ allowed → gap m ks l ≡ 0 → answer m ks l allowed ≡ tied (least_penalty m ks l) (needed m ks l)
  unfolding answer
  answer_tied h z = rw (le-ltb allowed (needed m ks l) h, eq-eqb (gap m ks l) 0 z)

  pub answer-found : needed m ks l ≤ allowed → 0 < gap m ks l
      → answer m ks l allowed ≡ found (best_bits m ks l) (best_word m ks l) (least_penalty m ks l) (gap m ks l) (needed m ks l)
  unfolding answer
  answer-found h z = rw (le-ltb allowed (needed m ks l) h, ne_eqb (gap m ks l) 0 (λ e. omega arith))
