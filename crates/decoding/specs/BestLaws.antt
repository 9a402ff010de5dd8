-- Laws of the best word: its information bits are k bits with the least penalty, no k bits have less,
-- and they are the only ones with it exactly if the gap is above 0.
use Rattle.std.specs.Prelude.{◌≡◌, ℕ, ◌+◌, ◌^◌, ◌≤◌, ◌<◌, length, ℤ}
use Rattle.std.proofs.Math.Path.{sym}
use Rattle.std.proofs.Common.{◌∙◌, arith, le_antisymm, le_refl, pow_pos, pow_mono}
use Rattle.std.proofs.Math.Logic.{⊎_elim}
use mathlib.Core.List.Memᴰ
use mathlib.Core.List.{List, [], map, Memᴰ}
use Rattle.std.proofs.Math.ListN.{length-map}
use Rattle.numbers.specs.Choice.{lt_or_le}
use Rattle.numbers.specs.Sums.{sum}
use Rattle.numbers.specs.Least.{least, next}
use Rattle.numbers.specs.LeastLaws.{upto, least_two, least_le_next}
use Rattle.numbers.specs.EntryLaws.{least-below, least-entry, first_with_lem, counted_once, once_counted}
use Rattle.words.specs.Bits.{Bits}
use Rattle.words.specs.Kinds.{all_bits, InformationBits}
use Rattle.words.proofs.FillLaws.{length-all_bits, in_all_bits, of_all_bits, distinct_all_bits}
use Rattle.decoding.specs.Best.{penalty_of, penalties, least_penalty, gap, best_bits}

module _ (m : ℕ) (ks : List ℕ) (l : List ℤ) where
  -- ---- the list of all words' penalties
  pub length-penalties : length (penalties m ks l) ≡ 2 ^ sum ks
  unfolding penalties
  length-penalties = length-map (all_bits (sum ks)) (penalty_of m ks l) ∙ length-all_bits (sum ks)

  pub two_penalties : 1 ≤ sum ks → 2 ≤ length (penalties m ks l)
  two_penalties h = rw length-penalties (pow_mono h)

  -- ---- the best bits
  -- no k bits have a word of less penalty
  pub none_less : (b : List ℕ) → InformationBits ks b → least_penalty m ks l ≤ penalty_of m ks l b
  unfolding least_penalty penalties
  none_less b h = least-below (penalty_of m ks l b) (penalties m ks l) (Memᴰ.map (penalty_of m ks l) (in_all_bits (sum ks) b h.0 h.1))

  best_entry : Memᴰ (best_bits m ks l) (all_bits (sum ks)) × (penalty_of m ks l (best_bits m ks l) ≡ least_penalty m ks l)
  unfolding best_bits least_penalty penalties
  best_entry =
      let f = penalty_of m ks l in
      let all = all_bits (sum ks) in
      let a = Memᴰ.of_map f all (least-entry (map f all) (rw length-penalties (pow_pos (sum ks)))) in
      first_with_lem f (least (map f all)) [] a.0 all a.1 a.2

  pub best_bits_are : InformationBits ks (best_bits m ks l)
  best_bits_are = of_all_bits (sum ks) (best_bits m ks l) best_entry.0

  pub length_best : length (best_bits m ks l) ≡ sum ks
  length_best = best_bits_are.0

  pub bits_best : Bits (best_bits m ks l)
  bits_best = best_bits_are.1

  pub best_attains : penalty_of m ks l (best_bits m ks l) ≡ least_penalty m ks l
  best_attains = best_entry.1

-- ---- the gap
module _ (m : ℕ) (ks : List ℕ) (l : List ℤ) (information : 1 ≤ sum ks) where
  pub next-penalty : next (penalties m ks l) ≡ least_penalty m ks l + gap m ks l
  unfolding gap least_penalty
  next-penalty = omega (arith, least_le_next (penalties m ks l) (two_penalties m ks l information))

  -- with a gap above 0 no other bits have a word of the least penalty
  pub best_only : 0 < gap m ks l → (b : List ℕ) → InformationBits ks b → penalty_of m ks l b ≡ least_penalty m ks l → b ≡ best_bits m ks l
  unfolding least_penalty penalties
  best_only g b h k =
      let f = penalty_of m ks l in
      let all = all_bits (sum ks) in
      let a = least_penalty m ks l in
      let second = (least_two (penalties m ks l) (two_penalties m ks l information)).second a in
      let once : upto a (map f all) ≤ 1 =
      ⊎_elim (λ i. omega arith) (λ i. absurd (omega (arith, second.0 i, next-penalty))) (lt_or_le (upto a (map f all)) 2) in
      let b_in = in_all_bits (sum ks) b h.0 h.1 in
      counted_once f a b (best_bits m ks l) all once b_in (best_entry m ks l).0 (omega arith) (omega (arith, best_attains m ks l))

  -- all other bits have a word of the next penalty or more
  pub others_more : (b : List ℕ) → InformationBits ks b → (b ≡ best_bits m ks l → ⊥) → least_penalty m ks l + gap m ks l ≤ penalty_of m ks l b
  unfolding least_penalty penalties
  others_more b h other =
      let f = penalty_of m ks l in
      let all = all_bits (sum ks) in
      let t = penalty_of m ks l b in
      let below : penalty_of m ks l (best_bits m ks l) ≤ t = rw (best_attains m ks l) (none_less m ks l b h) in
      let same : upto t (map f all) ≤ 1 → b ≡ best_bits m ks l = λ once.
      counted_once f t b (best_bits m ks l) all once (in_all_bits (sum ks) b h.0 h.1) (best_entry m ks l).0 (le_refl t) below in
      let twice : 2 ≤ upto t (map f all) = ⊎_elim (λ i. absurd (other (same (omega arith)))) (λ i. i) (lt_or_le (upto t (map f all)) 2) in
      rw (← next-penalty) (((least_two (penalties m ks l) (two_penalties m ks l information)).second t).0 twice)

  -- and back
  pub gap_above : ((b : List ℕ) → InformationBits ks b → penalty_of m ks l b ≡ least_penalty m ks l → b ≡ best_bits m ks l) → 0 < gap m ks l
  unfolding least_penalty penalties
  gap_above only =
      let f = penalty_of m ks l in
      let all = all_bits (sum ks) in
      let a = least_penalty m ks l in
      let is_best : (x : List ℕ) → Memᴰ x all → f x ≤ a → x ≡ best_bits m ks l = λ x i j.
      let r = of_all_bits (sum ks) x i in
      only x r (le_antisymm j (none_less m ks l x r)) in
      let once : upto a (map f all) ≤ 1 = once_counted f a all (distinct_all_bits (sum ks)) (λ x y i j p q. is_best x i p ∙ sym (is_best y j q)) in
      let second = (least_two (penalties m ks l) (two_penalties m ks l information)).second a in
      ⊎_elim (λ i. omega (arith, next-penalty)) (λ i. absurd (omega (arith, second.1 i))) (lt_or_le a (next (penalties m ks l)))
