-- The row u that the all-ones word comes from: 1 only at the last index.
use Rattle.std.specs.Prelude.{◌≡◌, List, ℕ, suc, ◌-◌, ◌^◌, ◌<◌, get_or}
use Rattle.std.proofs.Common.{ap, ◌∙◌, ⊎_elim, arith, pow_pos}
use Rattle.std.proofs.Math.Decide.{ℕ_discrete}
use Rattle.std.proofs.lemmas.List.{get_or-replicate}
use Rattle.std.proofs.Math.ListN.{get_or-eq_default}
use Rattle.numbers.specs.Choice.{lt_or_le}
use Rattle.words.specs.Word.{transform}
use Rattle.words.specs.Kinds.{all_ones}
use Rattle.words.specs.BitLaws.{ones-early}
use Rattle.words.specs.TransformLaws.{length-transform}
use Rattle.words.proofs.HalfLaws.{below-zero, below-ones}

module _ (m : ℕ) where
  abbrev last_row : List ℕ
  last_row = transform m (all_ones m)

  pub zero-early : (i : ℕ) → suc i < 2 ^ m → get_or last_row i 0 ≡ 0
  zero-early i h = (below-ones m).frozen i (omega arith) (omega (arith, ones-early m i h))

  pub zero_but_last : (i : ℕ) → (i ≡ 2 ^ m - 1 → ⊥) → get_or last_row i 0 ≡ 0
  zero_but_last i f =
      ⊎_elim
      (λ h. zero-early i (omega (arith, f, pow_pos m)))
      (λ h. get_or-eq_default last_row 0 {n = i} (rw (length-transform m (all_ones m) (below-ones m).long) h))
      (lt_or_le i (2 ^ m))

  pub not-zero-last : get_or last_row (2 ^ m - 1) 0 ≡ 0 → ⊥
  not-zero-last e =
      let all-zero : (i : ℕ) → get_or last_row i 0 ≡ 0 = λ i.
      elim (ℕ_discrete i (2 ^ m - 1)) [
        | yes last ↦ ap (λ (j : ℕ). get_or last_row j 0) last ∙ e
        | no f ↦ zero_but_last i f
      ] in
      let b = below-ones m in
      let zeros = below-zero m (all_ones m) (record { long = b.long; are_bits = b.are_bits; frozen = λ i h k. all-zero i }) in
      let some = pow_pos m in
      omega (arith, ap (λ (l : List ℕ). get_or l 0 0) zeros, get_or-replicate {A = ℕ} (2 ^ m) 0 1 0 some, get_or-replicate {A = ℕ} (2 ^ m) 0 0 0 some)
