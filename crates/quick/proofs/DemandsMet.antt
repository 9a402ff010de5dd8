-- The outcomes of `quick` meet demand 1.
use Rattle.std.specs.Prelude.{◌≡◌, refl, List, [], ◌∷◌, ℕ, ℤ, length, Err}
use Rattle.std.proofs.Common.{ap, sym, ◌∙◌, arith}
use Rattle.code.specs.declared.Refusal.{Refusal}
use Rattle.code.specs.Sound.{rm}
use Rattle.code.specs.SoundInput.{SoundReadings}
use Rattle.code.specs.Admitted.{admitted}
use Rattle.code.specs.AdmittedLaws.{refused_small, sound_allowed}
use Rattle.code.specs.RefusalLaws.{carries_none}
use Rattle.code.specs.Demand1.{passed, refused_as}
use Rattle.code.specs.Demand1Laws.{Decides, demand_1, decides_readings}
use Rattle.quick.specs.Outcome.{refused, reading_by, quick_reading}
use Rattle.quick.specs.OutcomeLaws.{reading-refused, reading-done}
use Rattle.quick.specs.Demands.{view, quick_checks, QuickDemand1}

module _ (r m : ℕ) (l : List ℤ) (bits word : List ℕ) where
  tests_refuse : (why : Refusal) → Err why ≡ admitted r m l (length bits) (length word)
      → view (quick_reading r m l bits word) ≡ refused_as why (bits ∷ word ∷ [])
  tests_refuse why e =
      let small = refused_small r m l (length bits) (length word) why e in
      let plain : view (refused why bits word) ≡ refused_as why (bits ∷ word ∷ []) = rw (carries_none why (λ k. omega arith) (λ k. omega arith)) in
      ap view (sym (reading-refused r m l bits word why e)) ∙ plain

  sound_read : SoundReadings (rm r m) l (length bits) (length word) → Decides (bits ∷ word ∷ []) (view (quick_reading r m l bits word)) passed
  sound_read s =
      let is = reading-done r m l bits word (rm r m) (reading_by (rm r m) l) (sound_allowed r m l (length bits) (length word) s) refl in
      rw (← is) (refl, refl)

  pub quick_demand_1 : QuickDemand1 r m l bits word
  quick_demand_1 =
      let before = bits ∷ word ∷ [] in
      let o = view (quick_reading r m l bits word) in
      demand_1 before o (quick_checks r m l bits word) (decides_readings r m l (length bits) (length word) before o passed tests_refuse sound_read)
