-- The search on a set that does not have the all-ones word, since its row names the last index, shows a turned-over link by a larger penalty.
use Rattle.std.specs.Prelude.{◌≡◌, List, map, ℕ, ◌-◌, ◌^◌, ℤ, neg_ℤ, get_or}
use Rattle.std.proofs.Math.Path.{refl}
use Rattle.std.proofs.Common.{ap, sym, subst, ◌∙◌, arith, eq-eqb, ne_eqb, lt-ltb, le-ltb}
use Rattle.std.proofs.Math.Logic.{⊎_elim}
use Rattle.std.proofs.Math.Decide.{ℕ_discrete}
use Rattle.numbers.specs.Choice.{lt_or_le}
use Rattle.words.specs.Kinds.{kinds, encoded, Word}
use Rattle.decoding.specs.Best.{least_penalty, gap, best_bits, best_word}
use Rattle.decoding.specs.BestLaws.{best_bits_are, best_attains}
use Rattle.decoding.specs.Walk.{needed}
use Rattle.decoding.specs.Answer.{answer}
use Rattle.decoding.specs.PolarityLaws.{wrong_sign}
use Rattle.code.specs.Sound.{rm}
use Rattle.named.specs.Named.{GoodRow}
use Rattle.named.specs.AllOnesNamed.{all_ones-left}
use Rattle.search.specs.Outcome.{Outcome, by_answer}
use Rattle.search.specs.Demands.{SoundSearch, Passes}
use Rattle.search.specs.DemandsMet.{sound_answered}
use Rattle.shortened.specs.Outcome.{left_of}
use Rattle.shortened.proofs.DemandsMet.{left_inside}
use Rattle.shortened_search.specs.Demands.{smaller_set, DearerTurnedOver}
use Rattle.shortened_search.specs.DemandsMet.{answered}

-- ---- what the numbers of an outcome are, by its answer
module _ (m : ℕ) (ks : List ℕ) (l : List ℤ) (allowed : ℕ) (bits word : List ℕ) where
  abbrev o : Outcome
  o = by_answer allowed bits word (answer m ks l allowed)

  found-is : o.number ≡ 0 → (o.penalty ≡ least_penalty m ks l) × (o.gap ≡ gap m ks l) × (o.word ≡ best_word m ks l)
  unfolding answer
  found-is =
      ⊎_elim
      (λ h. rw (lt-ltb allowed (needed m ks l) h) (λ z. absurd (omega arith)))
      (λ h. rw (le-ltb allowed (needed m ks l) h)
      (elim (ℕ_discrete (gap m ks l) 0) [
        | yes e ↦ rw (eq-eqb (gap m ks l) 0 e) (λ z. absurd (omega arith))
        | no n ↦ rw (ne_eqb (gap m ks l) 0 n) (λ z. (refl, refl, refl))
      ]))
      (lt_or_le allowed (needed m ks l))

  least-is : (o.number ≡ 6 → ⊥) → o.penalty ≡ least_penalty m ks l
  unfolding answer
  least-is =
      ⊎_elim
      (λ h. rw (lt-ltb allowed (needed m ks l) h) (λ z. absurd (z refl)))
      (λ h. rw (le-ltb allowed (needed m ks l) h)
      (elim (ℕ_discrete (gap m ks l) 0) [
        | yes e ↦ rw (eq-eqb (gap m ks l) 0 e) (λ z. refl)
        | no n ↦ rw (ne_eqb (gap m ks l) 0 n) (λ z. refl)
      ]))
      (lt_or_le allowed (needed m ks l))

module _ (r m : ℕ) (named : List ℕ) (g : GoodRow named (kinds r m)) (last : get_or named (2 ^ m - 1) 0 ≡ 0 → ⊥) (l : List ℤ) (bits word bits' word' : List ℕ)
    (x : SoundSearch r m l bits word) (x' : Passes (smaller_set r m named) (map neg_ℤ l) bits' word') where
  abbrev ks : List ℕ
  ks = left_of named (rm r m)

  pub dearer_turned_over : DearerTurnedOver r m named l bits word bits' word'
  dearer_turned_over = record {
    dearer = λ allowed allowed' z w n.
        let negated = map neg_ℤ l in
        let plain = sound_answered bits word x allowed in
        let over = answered r m named g negated bits' word' x' allowed' in
        let found = found-is m (kinds r m) l allowed bits word (sym (ap (λ (o : Outcome). o.number) plain) ∙ z) in
        let least = least-is m ks negated allowed' bits' word' (λ e. n (ap (λ (o : Outcome). o.number) over ∙ e)) in
        let inside = left_inside r m named in
        let best : Word m ks (best_word m (kinds r m) l) = subst (Word m ks) (ap (λ (o : Outcome). o.word) plain ∙ found.2) w in
        let b = best_bits_are m ks negated in
        let more = wrong_sign r m ks l x.entries.long inside.long inside.frozen best (λ v. last ((all_ones-left r m named).0 v))
        (encoded m ks (best_bits m ks negated)) (record { bits = best_bits m ks negated; long = b.0; are_bits = b.1; gives = refl }) in
        omega (
          arith,
          more,
          best_attains m ks negated,
          ap (λ (o : Outcome). o.penalty) plain ∙ found.0,
          ap (λ (o : Outcome). o.gap) plain ∙ found.1,
          ap (λ (o : Outcome). o.penalty) over ∙ least,
        );
  }
