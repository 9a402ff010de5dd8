-- The search's outcomes meet demand 1.
use Rattle.std.specs.Prelude.{◌≡◌, refl, List, [], ◌∷◌, ℕ, ℤ, length, Err}
use Rattle.std.proofs.Common.{ap, inl, inr, ⊎_elim, arith, lt-ltb, le-ltb, eq-eqb, ne_eqb}
use Rattle.std.proofs.Math.Decide.{ℕ_discrete}
use Rattle.numbers.specs.Choice.{lt_or_le}
use Rattle.words.specs.Kinds.{kinds}
use Rattle.decoding.specs.Best.{gap}
use Rattle.decoding.specs.Walk.{needed}
use Rattle.decoding.specs.Answer.{answer}
use Rattle.code.specs.declared.Refusal.{Refusal}
use Rattle.code.specs.Admitted.{admitted}
use Rattle.code.specs.Demand1.{refused_as}
use Rattle.code.specs.Demand1Laws.{Decides, demand_1, decides_readings}
use Rattle.search.specs.Outcome.{by_answer, searching}
use Rattle.search.specs.OutcomeLaws.{searching-refused}
use Rattle.search.specs.Demands.{SoundSearch, view, walk_checks_over, walk_checks, search_checks, SearchDemand1}
use Rattle.search.specs.DemandsMet.{sound_answered}

-- 6, then 7, by the answer's definition: over the words of any row of kinds
pub answer_decides : (m : ℕ) (ks : List ℕ) (allowed : ℕ) (l : List ℤ) (bits word : List ℕ)
    → Decides (bits ∷ word ∷ []) (view (by_answer allowed bits word (answer m ks l allowed))) (walk_checks_over m ks allowed l)
unfolding answer
answer_decides m ks allowed l bits word =
    ⊎_elim
    (λ h. inl (h, rw (lt-ltb allowed (needed m ks l) h)))
    (λ h. inr (
      λ k. omega arith,
      elim (ℕ_discrete (gap m ks l) 0) [
        | yes z ↦ inl (z, rw (le-ltb allowed (needed m ks l) h, eq-eqb (gap m ks l) 0 z))
        | no z ↦ inr (z, rw (le-ltb allowed (needed m ks l) h, ne_eqb (gap m ks l) 0 z) (refl, refl))
      ],
    ))
    (lt_or_le allowed (needed m ks l))

module _ (r m allowed : ℕ) (l : List ℤ) (bits word : List ℕ) where
  tests_refuse : (why : Refusal) → Err why ≡ admitted r m l (length bits) (length word)
      → view (searching r m allowed l bits word) ≡ refused_as why (bits ∷ word ∷ [])
  tests_refuse why e = ap view (searching-refused r m allowed l bits word why e)

  sound_decides : SoundSearch r m l bits word → Decides (bits ∷ word ∷ []) (view (searching r m allowed l bits word)) (walk_checks r m allowed l)
  sound_decides s = rw (sound_answered bits word s allowed) (answer_decides m (kinds r m) allowed l bits word)

  pub search_decides : Decides (bits ∷ word ∷ []) (view (searching r m allowed l bits word)) (search_checks r m allowed l bits word)
  search_decides =
      decides_readings r m l (length bits) (length word) (bits ∷ word ∷ []) (view (searching r m allowed l bits word)) (walk_checks r m allowed l)
      tests_refuse sound_decides

  pub search_demand_1 : SearchDemand1 r m allowed l bits word
  search_demand_1 = demand_1 (bits ∷ word ∷ []) (view (searching r m allowed l bits word)) (search_checks r m allowed l bits word) search_decides
