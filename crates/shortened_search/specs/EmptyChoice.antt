-- An empty choice, a row of n zero bytes, gives what the plain search gives: every number and every byte, visits and runner-up included.
use Rattle.std.specs.Prelude.{◌≡◌, List, ℕ, ◌^◌, ℤ, length, replicate}
use Rattle.std.proofs.Common.{ap, sym, ◌∙◌}
use Rattle.numbers.specs.Sums.{sum}
use Rattle.words.specs.Kinds.{kinds}
use Rattle.words.proofs.KindLaws.{sum-kinds}
use Rattle.code.specs.declared.Code.{Code}
use Rattle.code.specs.declared.Refusal.TheVariants.{Parameters}
use Rattle.code.specs.Sound.{Sound, rm}
use Rattle.code.specs.SoundLaws.{made_good}
use Rattle.code.specs.SoundInput.{dimension_of}
use Rattle.code.specs.Admitted.{admitted_by, admitted}
use Rattle.code.specs.AdmittedLaws.{allows, refuses, decided, refused_parameters, tested-made}
use Rattle.named.specs.NamedLaws.{left-all, empty_good, bad_parameters, bad-row, sound_row, row_decided}
use Rattle.search.specs.RunnerUp.{runner_up_outcome_by, searching_with_runner_up}
use Rattle.search.proofs.RunnerUpLaws.{runner_up-refused, runner_up_answered}
use Rattle.shortened_search.specs.Outcome.{searching_over, searching_shortened}
use Rattle.shortened_search.specs.OutcomeLaws.{searching-refused, searching-left, over-refused, over_answered}

module _ (r m allowed : ℕ) (l : List ℤ) (bits word : List ℕ) where
  -- the plain search is the one over the kinds of RM(r,m)
  pub plain_searching : Sound (rm r m) → searching_over (kinds r m) (rm r m) allowed l bits word ≡ searching_with_runner_up r m allowed l bits word
  plain_searching s =
      let good = made_good r m s.m_small s.r_small in
      let same : admitted_by (rm r m) (sum (kinds r m)) l (length bits) (length word) ≡ admitted r m l (length bits) (length word) =
      ap (λ (k : ℕ). admitted_by (rm r m) k l (length bits) (length word)) (sum-kinds r m)
      ∙ tested-made dimension_of r m l (length bits) (length word) (rm r m) good in
      elim (decided r m l (length bits) (length word)) [
        | allows c e is a ↦ sym (over_answered (kinds r m) (rm r m) allowed l bits word c (e ∙ sym same))
            ∙ ap (λ (d : Code). runner_up_outcome_by d.m (kinds r m) l allowed bits word) is
            ∙ ap (λ (d : Code). runner_up_outcome_by d.m (kinds d.r d.m) l allowed bits word) (sym is)
            ∙ sym (runner_up_answered r m allowed l bits word c e)
        | refuses why e h ↦ sym (over-refused (kinds r m) (rm r m) allowed l bits word why (e ∙ sym same))
            ∙ sym (runner_up-refused r m allowed l bits word why e)
      ]

  abbrev none : List ℕ
  none = replicate (2 ^ m) 0

  pub empty_searching : searching_shortened r m allowed none l bits word ≡ searching_with_runner_up r m allowed l bits word
  empty_searching =
      elim (row_decided r m none) [
        | bad_parameters b e ↦ sym (searching-refused r m allowed none l bits word Parameters e)
            ∙ sym (runner_up-refused r m allowed l bits word Parameters (refused_parameters dimension_of r m l (length bits) (length word) b))
        | bad-row s bad e ↦ absurd (bad (empty_good r m))
        | sound_row s g e ↦ sym (searching-left r m allowed none l bits word (rm r m) e)
            ∙ ap (λ (ks : List ℕ). searching_over ks (rm r m) allowed l bits word) (left-all (2 ^ m) (kinds r m))
            ∙ plain_searching s
      ]
