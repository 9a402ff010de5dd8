-- `unpack` meets demand 1.
use Rattle.std.specs.Prelude.{◌≡◌, refl, List, [], ℕ, zero, suc, ◌^◌, ◌<◌, ℤ, length}
use Rattle.std.proofs.Common.{ap, subst, sym, ◌∙◌, inl, inr, arith, eq-eqb, ne_eqb}
use Rattle.std.proofs.Math.Decide.{ℕ_discrete}
use Rattle.code.specs.Sound.{largest_m}
use Rattle.code.specs.Demand1Laws.{Decides, demand_1}
use Rattle.packing.specs.Layout.{part_length, readings_in}
use Rattle.packing.specs.Unpacking.{UnpackedOutcome, unpacking}
use Rattle.packing.specs.UnpackingLaws.{no_part, other_room, all-unpacked, part_of_some}
use Rattle.packing.specs.UnpackDemand.{PartFor, unpack_checks, unpack_view, UnpackDemand1}

-- as many readings as the record has
part_readings : (b m : ℕ) → m < b → readings_in b (part_length m) ≡ 2 ^ m
unfolding readings_in part_length
part_readings zero m h = absurd (omega arith)
part_readings (suc b) m h =
    elim (ℕ_discrete (part_length m) (part_length b)) [
      | yes e ↦ let same : 2 ^ b ≡ 2 ^ m = omega (arith, e) in rw (eq-eqb (part_length m) (part_length b) e) same
      | no f ↦
          let g : m ≡ b → ⊥ = λ s. f (ap part_length s) in
          rw (ne_eqb (part_length m) (part_length b) f) (part_readings b m (omega (arith, g)))
    ]

record Some (b k : ℕ) : Type 0 where
  m : ℕ
  below : m < b
  is : k ≡ part_length m

some_part : (b k : ℕ) → (readings_in b k ≡ 0 → ⊥) → Some b k
unfolding readings_in
some_part zero k f = absurd (f refl)
some_part (suc b) k f =
    elim (ℕ_discrete k (part_length b)) [
      | yes e ↦ record { m = b; below = omega arith; is = e }
      | no g ↦ let s = some_part b k (λ z. f (rw (ne_eqb k (part_length b) g) z)) in record { m = s.m; below = omega (arith, s.below); is = s.is }
    ]

module _ (part : List ℕ) (readings : List ℤ) where
  abbrev o : UnpackedOutcome
  o = unpacking part readings

  abbrev n : ℕ
  n = readings_in (suc largest_m) (length part)

  held : (m : ℕ) → PartFor part m → n ≡ 2 ^ m
  held m p = ap (readings_in (suc largest_m)) p.1 ∙ part_readings (suc largest_m) m (omega (arith, p.0))

  unpack_decides : Decides [] (unpack_view o) (unpack_checks part readings)
  unpack_decides =
      elim (ℕ_discrete n 0) [
        | yes e ↦ inl (
          λ m p. part_of_some (suc largest_m) m (omega (arith, p.0)) (subst (λ (k : ℕ). readings_in (suc largest_m) k ≡ 0) p.1 e),
          ap unpack_view (no_part part readings e),
        )
        | no some ↦
            let s = some_part (suc largest_m) (length part) some in
            let own : PartFor part s.m = (omega (arith, s.below), s.is) in
            inr (
              λ none. none s.m own,
              elim (ℕ_discrete (length readings) n) [
                | no f ↦ inl (λ m p e. f (e ∙ sym (held m p)), ap unpack_view (other_room part readings some f))
                | yes e ↦ inr (
                  λ none. none s.m own (e ∙ held s.m own),
                  rw (all-unpacked part readings some e) (refl, refl),
                )
              ],
            )
      ]

  kept : 0 < o.carry.number → o.readings ≡ readings
  kept h =
      elim (ℕ_discrete n 0) [
        | yes e ↦ ap (λ (x : UnpackedOutcome). x.readings) (no_part part readings e)
        | no some ↦
            elim (ℕ_discrete (length readings) n) [
              | no f ↦ ap (λ (x : UnpackedOutcome). x.readings) (other_room part readings some f)
              | yes e ↦ absurd (omega (arith, h, ap (λ (x : UnpackedOutcome). x.carry.number) (all-unpacked part readings some e)))
            ]
      ]

  pub unpack_demand_1 : UnpackDemand1 part readings
  unpack_demand_1 = record { numbers = demand_1 [] (unpack_view o) (unpack_checks part readings) unpack_decides; kept = kept }
