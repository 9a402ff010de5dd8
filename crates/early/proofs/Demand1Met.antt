-- The outcomes of the early answer meet demand 1.
use Rattle.std.specs.Prelude.{◌≡◌, refl, true, false, List, [], ◌∷◌, ℕ, ℤ, length, Err}
use Rattle.std.proofs.Math.Path.{ap}
use Rattle.std.proofs.Common.{◌∙◌, arith}
use Rattle.std.proofs.Math.Logic.{inl, inr, ⊎_elim}
use Rattle.std.proofs.Math.Decide.{ℕ_discrete}
use borrow.Author.Tests.{lt-ltb, le-ltb, eq-eqb, ne_eqb}
use Rattle.numbers.specs.Choice.{lt_or_le}
use Rattle.words.specs.Kinds.{kinds}
use Rattle.decoding.specs.Best.{gap}
use Rattle.decoding.specs.Walk.{needed}
use Rattle.decoding.specs.Answer.{answer}
use Rattle.sure.specs.Test.{passes}
use Rattle.code.specs.declared.Refusal.{Refusal}
use Rattle.code.specs.Admitted.{admitted}
use Rattle.code.specs.Demand1.{refused_as}
use Rattle.code.specs.Demand1Laws.{Decides, demand_1, decides_readings}
use Rattle.search.specs.Demands.{SoundSearch, view}
use Rattle.search.specs.DemandsMet.{sound_answered}
use Rattle.early.specs.Outcome.{word_only, answering}
use Rattle.early.proofs.OutcomeLaws.{answering-refused}
use Rattle.early.proofs.WayLaws.{true_or_false, passed_is, failed_is}
use Rattle.early.specs.Demands.{late_checks, early_checks, EarlyDemand1}

module _ (r m allowed : ℕ) (l : List ℤ) (bits word : List ℕ) where
  tests_refuse : (why : Refusal) → Err why ≡ admitted r m l (length bits) (length word)
      → view (answering r m allowed l bits word) ≡ refused_as why (bits ∷ word ∷ [])
  tests_refuse why e = ap view (answering-refused r m allowed l bits word why e)

  -- the test passes: neither 6 nor 7
  at_once_decides : SoundSearch r m l bits word → passes r m (kinds r m) l ≡ true
      → Decides (bits ∷ word ∷ []) (view (answering r m allowed l bits word)) (late_checks r m allowed l)
  at_once_decides s p =
      let not_both : (passes r m (kinds r m) l ≡ false) → ⊥ = λ q. let z : ◌≡◌ {A = ℕ} 0 1 = cc in omega arith in
      inr (λ x. not_both x.0, inr (λ x. not_both x.0, rw (passed_is bits word s allowed p) (refl, refl)))

  -- else 6, then 7, by the answer's definition
  searched_decides : SoundSearch r m l bits word → passes r m (kinds r m) l ≡ false
      → Decides (bits ∷ word ∷ []) (view (answering r m allowed l bits word)) (late_checks r m allowed l)
  unfolding answer
  searched_decides s p =
      let ks = kinds r m in
      let is = failed_is bits word s allowed p ∙ ap word_only (sound_answered bits word s allowed) in
      ⊎_elim
      (λ h. inl ((p, h), rw (is, lt-ltb allowed (needed m ks l) h)))
      (λ h. inr (
        λ x. omega (arith, x.1),
        elim (ℕ_discrete (gap m ks l) 0) [
          | yes z ↦ inl ((p, z), rw (is, le-ltb allowed (needed m ks l) h, eq-eqb (gap m ks l) 0 z))
          | no z ↦ inr (λ x. z x.1, rw (is, le-ltb allowed (needed m ks l) h, ne_eqb (gap m ks l) 0 z) (refl, refl))
        ],
      ))
      (lt_or_le allowed (needed m ks l))

  early_decides : Decides (bits ∷ word ∷ []) (view (answering r m allowed l bits word)) (early_checks r m allowed l bits word)
  early_decides =
      decides_readings r m l (length bits) (length word) (bits ∷ word ∷ []) (view (answering r m allowed l bits word)) (late_checks r m allowed l)
      tests_refuse
      (λ s. ⊎_elim (at_once_decides s) (searched_decides s) (true_or_false (passes r m (kinds r m) l)))

  pub early_demand_1 : EarlyDemand1 r m allowed l bits word
  early_demand_1 = demand_1 (bits ∷ word ∷ []) (view (answering r m allowed l bits word)) (early_checks r m allowed l bits word) early_decides
