-- The largest size of an entry of the transform, its place and the largest size at the other places give the search's answer over RM(1,m):
-- least penalty and gap, and a tie exactly if both sizes are equal, else the best word and its bits.
-- The word of the best place with the other bit never comes next: its correlation is not above 0.
use Rattle.std.specs.Prelude.{◌≡◌, refl, ◌↔◌, ◌⊎◌, List, ℕ, zero, suc, ◌+◌, ◌-◌, ◌*◌, ◌^◌, ◌%◌, ◌/◌, ◌≤◌, ◌<◌, length, ℤ, pos, negsuc, nat_abs}
use Rattle.std.proofs.Math.Path.{ap}
use Rattle.std.proofs.Common.{ap₂, sym, ◌∙◌, subst, inl, inr, ⊎_elim, arith, le_refl, eq-eqb, ne_eqb}
use Rattle.std.proofs.Math.Decide.{ℕ_discrete}
use Rattle.numbers.specs.Choice.{lt_or_le}
use Rattle.numbers.specs.Parts.{up, down}
use Rattle.numbers.specs.PartsLaws.{parts, negated, sum_parts}
use Rattle.numbers.specs.Sums.{sum}
use Rattle.numbers.specs.Least.{next}
use Rattle.words.specs.Kinds.{kinds, encoded, InformationBits, Word}
use Rattle.words.proofs.KindLaws.{length-kinds, bits_kinds, sum_kinds_pos}
use Rattle.decoding.specs.Readings.{turn, turns, penalty, correlation, sizes}
use Rattle.decoding.specs.Quick.{hard}
use Rattle.decoding.specs.Best.{penalty_of, penalties, least_penalty, gap, best_bits, best_word}
use Rattle.decoding.specs.Walk.{needed, tree}
use Rattle.decoding.specs.Answer.{found, tied, answer}
use Rattle.decoding.specs.CorrelationLaws.{correlation_law}
use Rattle.decoding.specs.BestLaws.{none_less, best_bits_are, best_attains, best_only, others_more, next-penalty}
use Rattle.decoding.proofs.WalkLaws.{best_two}
use Rattle.decoding.specs.TreeLaws.{needed_most}
use Rattle.decoding.specs.AnswerLaws.{answer_tied, answer-found}
use Rattle.decoding.specs.Demands.{Demand2, Together, Demands}
use Rattle.decoding.proofs.DemandsMet.{demands}
use Rattle.hadamard.specs.Hadamard.{hadamard, entry, by_place, first_order, bits_of, place_named, LargestTwo}
use Rattle.hadamard.proofs.HadamardLaws.{length-hadamard}
use Rattle.hadamard.proofs.FirstOrderLaws.{length-first_order, correlation-word}
use Rattle.hadamard.proofs.EncodedLaws.{sum-first_order, bits_of_are, place_bits_of, place_within, bits_of_place, encoded-bits_of}

-- ---- one word's penalty
word-penalty : (m : ℕ) (l : List ℤ) → length l ≡ 2 ^ m → (s e : ℕ) → s < 2 ^ m → e < 2
    → 2 * penalty_of m (kinds 1 m) l (bits_of m s e) + up (turn e (entry m l s)) ≡ sizes l + down (turn e (entry m l s))
word-penalty m l long s e h g =
    let x = first_order m s e in
    let c = correlation-word m s e l h g long in
    let law = correlation_law l x (long ∙ sym (length-first_order m s e)) in
    rw (ap (penalty l) (encoded-bits_of m s e h g))
    (omega (arith, ap up law, ap down law, sum_parts (correlation l x) (pos (2 * penalty l x)), ap up c, ap down c))

-- ---- a reading turned by the bit that it speaks for, by the other bit, by either
record Spoken (z : ℤ) : Type 0 where
  spoken_up : up (turn (hard z) z) ≡ nat_abs z
  spoken_down : down (turn (hard z) z) ≡ 0
  sign_bit : hard z < 2

spoken : (z : ℤ) → Spoken z
spoken (pos n) = record { spoken_up = refl; spoken_down = refl; sign_bit = omega arith }
spoken (negsuc n) = record { spoken_up = refl; spoken_down = refl; sign_bit = omega arith }

other_up : (e : ℕ) (z : ℤ) → e < 2 → (e ≡ hard z → ⊥) → up (turn e z) ≡ 0
other_up zero (pos n) h k = absurd (k refl)
other_up zero (negsuc n) h k = refl
other_up (suc e) (pos zero) h k = refl
other_up (suc e) (pos (suc n)) h k = refl
other_up (suc zero) (negsuc n) h k = absurd (k refl)
other_up (suc (suc e)) (negsuc n) h k = absurd (omega arith)

either_up : (e : ℕ) (z : ℤ) → up (turn e z) ≤ nat_abs z
either_up zero z = omega (arith, parts z)
either_up (suc e) z = omega (arith, parts z, negated z)

-- ---- the answer, if looking at all entries found place, best and second
module _ (m : ℕ) (l : List ℤ) (long : length l ≡ 2 ^ m) (place best second : ℕ) (r : LargestTwo (hadamard m l) place best second) where
  abbrev sign : ℕ
  sign = hard (entry m l place)

  abbrev own : List ℕ
  own = bits_of m place sign

  abbrev rival : List ℕ
  rival = bits_of m r.other (hard (entry m l r.other))

  abbrev has : List ℕ → ℕ
  has b = penalty_of m (kinds 1 m) l b

  place_below : place < 2 ^ m
  place_below = omega (arith, r.within, length-hadamard m l long)

  other_below : r.other < 2 ^ m
  other_below = omega (arith, r.other_within, length-hadamard m l long)

  own-penalty : 2 * has own + best ≡ sizes l
  own-penalty =
      let s = spoken (entry m l place) in
      omega (arith, word-penalty m l long place sign place_below s.sign_bit, s.spoken_up, s.spoken_down, r.has)

  rival-penalty : 2 * has rival + second ≡ sizes l
  rival-penalty =
      let z = entry m l r.other in
      let s = spoken z in
      omega (arith, word-penalty m l long r.other (hard z) other_below s.sign_bit, s.spoken_up, s.spoken_down, r.other_has)

  rival_differs : rival ≡ own → ⊥
  rival_differs e =
      let apart : r.other ≡ place → ⊥ = r.differs in
      apart
      (sym (place_bits_of m r.other (hard (entry m l r.other)) other_below (spoken (entry m l r.other)).sign_bit)
      ∙ ap (place_named m) e ∙ place_bits_of m place sign place_below (spoken (entry m l place)).sign_bit)

  -- any other word has the rival's penalty or more
  at_place : (s e : ℕ) → s < 2 ^ m → e < 2 → (bits_of m s e ≡ own) ⊎ (sizes l ≤ 2 * has (bits_of m s e) + second)
  at_place s e h g =
      let p = word-penalty m l long s e h g in
      elim (ℕ_discrete s place) [
        | yes i ↦
            elim (ℕ_discrete e (hard (entry m l s))) [
              | yes j ↦ inl (ap₂ (bits_of m) i (j ∙ ap (λ (t : ℕ). hard (entry m l t)) i))
              | no j ↦ inr (omega (arith, p, other_up e (entry m l s) g j))
            ]
        | no i ↦ inr (omega (arith, p, either_up e (entry m l s), r.others s i))
      ]

  own-or-more : (b : List ℕ) → InformationBits (kinds 1 m) b → (b ≡ own) ⊎ (sizes l ≤ 2 * has b + second)
  own-or-more b h =
      let bits : bits_of m (place_named m b) (sum b % 2) ≡ b = bits_of_place m b (h.0 ∙ sum-first_order m) h.1 in
      subst (λ (c : List ℕ). (c ≡ own) ⊎ (sizes l ≤ 2 * has c + second)) bits
      (at_place (place_named m b) (sum b % 2) (place_within m b h.1) (omega arith))

  own_are : InformationBits (kinds 1 m) own
  own_are = bits_of_are m place sign

  -- the least penalty
  pub least-by_place : 2 * least_penalty m (kinds 1 m) l + best ≡ sizes l
  least-by_place =
      let least_bits = best_bits m (kinds 1 m) l in
      let attains = best_attains m (kinds 1 m) l in
      let lower = none_less m (kinds 1 m) l own own_are in
      ⊎_elim
      (λ e. omega (arith, own-penalty, ap has e, attains))
      (λ h. omega (arith, own-penalty, attains, lower, h, r.most))
      (own-or-more least_bits (best_bits_are m (kinds 1 m) l))

  own-least : has own ≡ least_penalty m (kinds 1 m) l
  own-least = omega (arith, own-penalty, least-by_place)

  more-by_place : 2 * (least_penalty m (kinds 1 m) l + gap m (kinds 1 m) l) + second ≡ sizes l
  more-by_place =
      let ks = kinds 1 m in
      let a = least_penalty m ks l in
      let g = gap m ks l in
      let info : 1 ≤ sum ks = sum_kinds_pos 1 m in
      let t = best_two m ks l long (length-kinds 1 m) (bits_kinds 1 m) info in
      let enough : sizes l ≤ 2 * (a + g) + second =
      ⊎_elim
      (λ e.
      ⊎_elim
      (λ d. absurd (t.differ (d ∙ sym e)))
      (λ h. omega (arith, h, t.first-has))
      (own-or-more t.first t.first_bits))
      (λ h. omega (arith, h, t.second-has))
      (own-or-more t.second t.second_bits) in
      let most : a + g ≤ has rival =
      ⊎_elim
      (λ (k : 0 < g).
      let only = best_only m ks l info k own own_are own-least in
      others_more m ks l info rival (bits_of_are m _ _) (λ e. rival_differs (e ∙ sym only)))
      (λ (k : g ≤ 0). omega (arith, none_less m ks l rival (bits_of_are m _ _)))
      (lt_or_le 0 g) in
      omega (arith, enough, most, rival-penalty)

  -- the next penalty, taken with repeats
  pub next-by_place : 2 * next (penalties m (kinds 1 m) l) + second ≡ sizes l
  next-by_place = rw (next-penalty m (kinds 1 m) l (sum_kinds_pos 1 m)) more-by_place

  pub gap-by_place : 2 * gap m (kinds 1 m) l + second ≡ best
  gap-by_place = omega (arith, more-by_place, least-by_place)

  -- tied exactly if another place has the best size
  pub tied_by_place : (gap m (kinds 1 m) l ≡ 0) ↔ (second ≡ best)
  tied_by_place = (λ e. omega (arith, gap-by_place), λ e. omega (arith, gap-by_place))

  -- else the best word is the one of the place and of the entry's sign
  pub bits_by_place : second < best → best_bits m (kinds 1 m) l ≡ bits_of m place (hard (entry m l place))
  bits_by_place h = sym (best_only m (kinds 1 m) l (sum_kinds_pos 1 m) (omega (arith, gap-by_place)) own own_are own-least)

  pub word-by_place : second < best → best_word m (kinds 1 m) l ≡ first_order m place (hard (entry m l place))
  unfolding best_word
  word-by_place h =
      ap (encoded m (kinds 1 m)) (bits_by_place h) ∙ encoded-bits_of m place sign place_below (spoken (entry m l place)).sign_bit

  -- the search's answer, with an allowance as large as the whole tree
  pub answer-by_place : (allowed : ℕ) → tree (kinds 1 m) ≤ allowed
      → answer m (kinds 1 m) l allowed ≡ by_place m l place best second (needed m (kinds 1 m) l)
  answer-by_place allowed h =
      let ks = kinds 1 m in
      let visits = needed m ks l in
      let enough : visits ≤ allowed = omega (arith, needed_most m ks l (bits_kinds 1 m)) in
      let penalty-is : least_penalty m ks l ≡ (sizes l - best) / 2 = omega (arith, least-by_place) in
      let gap_is : gap m ks l ≡ (best - second) / 2 = omega (arith, gap-by_place) in
      ⊎_elim
      (λ (k : second < best).
      rw (ne_eqb best second (λ e. omega arith))
      (answer-found m ks l allowed enough (omega (arith, gap-by_place))
      ∙ ap₂ (λ (b x : List ℕ). found b x (least_penalty m ks l) (gap m ks l) visits) (bits_by_place k) (word-by_place k)
      ∙ ap₂ (λ (p g : ℕ). found (bits_of m place sign) (first_order m place sign) p g visits) penalty-is gap_is))
      (λ (k : best ≤ second).
      rw (eq-eqb best second (omega (arith, r.most)))
      (answer_tied m ks l allowed enough (omega (arith, gap-by_place, r.most)) ∙ ap (λ (p : ℕ). tied p visits) penalty-is))
      (lt_or_le second best)

  -- so it is what demand 2 asks for
  pub demand_2_by_place : (allowed : ℕ) → tree (kinds 1 m) ≤ allowed
      → Demand2 m (kinds 1 m) l allowed (by_place m l place best second (needed m (kinds 1 m) l))
  demand_2_by_place allowed h =
      let a = by_place m l place best second (needed m (kinds 1 m) l) in
      ((demands m (kinds 1 m) l long (length-kinds 1 m) (bits_kinds 1 m) (sum_kinds_pos 1 m)).demand_2 allowed a).0 (answer-by_place allowed h)

-- and demand 3: for readings and for those negated by a word, both are tied, or both answer, the second with that word and its bits added
pub demand_3_by_place : (m : ℕ) (l : List ℤ) (c : List ℕ) (place best second place' best' second' : ℕ) → length l ≡ 2 ^ m
    → (w : Word m (kinds 1 m) c) → LargestTwo (hadamard m l) place best second → LargestTwo (hadamard m (turns c l)) place' best' second'
    → Together w.bits c (by_place m l place best second (needed m (kinds 1 m) l))
    (by_place m (turns c l) place' best' second' (needed m (kinds 1 m) (turns c l)))
demand_3_by_place m l c place best second place' best' second' long w r r' =
    let ks = kinds 1 m in
    let all = tree ks in
    let l' = turns c l in
    let met : (k : List ℤ) → length k ≡ 2 ^ m → Demands m ks k = λ k e. demands m ks k e (length-kinds 1 m) (bits_kinds 1 m) (sum_kinds_pos 1 m) in
    let three = (met l long).demand_3 c w in
    let long' : length l' ≡ 2 ^ m = three.same_length ∙ long in
    let both = three.together all all ((met l long).whole_tree all (le_refl all)) ((met l' long').whole_tree all (le_refl all)) in
    rw (answer-by_place m l long place best second r all (le_refl all), answer-by_place m l' long' place' best' second' r' all (le_refl all)) at both
