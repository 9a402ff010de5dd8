-- The outcomes of the writer meet demand 1, and so does any outcome that begins with the writer's tests.
use Rattle.std.specs.Prelude.{◌≡◌, refl, ℕ, suc, ◌+◌, ◌-◌, ◌^◌, ◌<◌, ℤ, pos, nat_abs, length, Result, Ok, Err}
use Rattle.std.proofs.Math.Path.{ap}
use Rattle.std.proofs.Common.{sym, inl, inr, ⊎_elim, arith}
use mathlib.Core.List.{List, [], ◌∷◌}
use Rattle.std.proofs.Math.Decide.{ℕ_discrete}
use Rattle.numbers.specs.Choice.{lt_or_le}
use Rattle.code.specs.Sound.{largest_m, largest_record_reading, rm}
use Rattle.code.specs.SoundLaws.{made_large, made-crossed, made_good}
use Rattle.code.specs.Demand1.{View, refused_as, Checks, passed, check}
use Rattle.code.specs.Demand1Laws.{Decides, demand_1, decides_entry}
use Rattle.code.specs.declared.Refusal.{Refusal}
use Rattle.code.specs.declared.Refusal.TheVariants.{OutputLength}
use Rattle.packing.specs.Layout.{record_of, part_length}
use Rattle.packing.specs.LayoutLaws.{length_record}
use Rattle.record.specs.Writing.{writable, written_by, writing}
use Rattle.record.specs.WritingLaws.{not_made, not_long, not_good, no_room, may_write}
use Rattle.record.specs.Demands.{written_view, write_checks, WriteDemand1}
use Rattle.code.specs.declared.Code.{Code}

module _ (r m : ℕ) (l : List ℤ) (d : List ℕ) (place : ℕ) where
  -- for any outcome that is refused as the tests say; what comes after them matters only if they all pass
  pub decides_writing : (before : List (List ℕ)) (o : View) (rest : Checks)
      → ((why : Refusal) → Err why ≡ writable r m l (length d) place → o ≡ refused_as why before)
      → (Ok (rm r m) ≡ writable r m l (length d) place → Decides before o rest)
      → Decides before o (write_checks r m l d place rest)
  decides_writing before o rest refuses then =
      let n = length d in
      let room : Checks = check OutputLength (length d < place + length (record_of r m l)) rest in
      ⊎_elim
      (λ large. inl (inl large, refuses _ (not_made r m l n place (made_large r m large))))
      (λ small. ⊎_elim
      (λ crossed. inl (inr crossed, refuses _ (not_made r m l n place (made-crossed r m small crossed))))
      (λ within.
      let good = made_good r m small within in
      inr (
        λ x. ⊎_elim (λ y. omega arith) (λ y. omega arith) x,
        elim (ℕ_discrete (length l) (2 ^ m)) [
          | no f ↦ inl (f, refuses _ (not_long r m l n place (rm r m) good f))
          | yes e ↦ inr (
            λ f. f e,
            decides_entry (pos 0) nat_abs largest_record_reading l before o room
                (λ h. refuses _ (not_good r m l n place (rm r m) good e h))
                (λ h. ⊎_elim
                (λ g. inl (omega (arith, length_record r m l e), refuses _ (no_room r m l n place (rm r m) good e h g)))
                (λ g. inr (λ x. omega (arith, length_record r m l e), then (may_write r m l n place (rm r m) good e h g)))
                (lt_or_le (n - place) (suc (part_length m)))),
          )
        ],
      ))
      (lt_or_le m r))
      (lt_or_le largest_m m)

  pub write_demand_1 : WriteDemand1 r m l d place
  unfolding writing
  write_demand_1 =
      let before = d ∷ [] in
      let o = written_view (writing r m l d place) in
      demand_1 before o (write_checks r m l d place passed)
      (decides_writing before o passed (λ why e. ap (λ (a : Result Code Refusal). written_view (written_by a l d place)) (sym e)) (λ e. rw (← e) (refl, refl)))
