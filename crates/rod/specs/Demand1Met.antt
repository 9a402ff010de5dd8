-- The rod's reader and writer meet demand 1.
use Rattle.std.specs.Prelude.{◌≡◌, refl, List, [], ◌∷◌, ℕ, suc, ◌^◌, ◌≤◌, ◌<◌, ℤ, length, replicate}
use Rattle.std.proofs.Common.{ap, ◌∙◌, inl, inr, ⊎_elim, arith}
use Rattle.std.proofs.Math.Decide.{ℕ_discrete}
use Rattle.numbers.specs.Choice.{lt_or_le}
use Rattle.code.specs.Sound.{carrying, largest_m}
use Rattle.first_order.specs.DemandsMet.{first_order_demand_1}
use Rattle.guarded.specs.declared.Fault.TheVariants.{Link}
use Rattle.guarded.specs.Written.{WriteOutcome}
use Rattle.guarded.proofs.Demand1Met.{guard_meets}
use Rattle.rod.specs.Outcome.{no_position, rod_search, position_said, reading_rod, writing_rod}
use Rattle.rod.specs.TheoremsMet.{number-zeros, engine_small, engine_bits}
use Rattle.rod.specs.WorkLaws.{writing-none, writing_above, writing_short, writing_large, writing-done}
use Rattle.rod.specs.Demand1.{RodReadDemand1, NoCode, RodWriterMeets, RodWriteDemand1}

-- ---- the reader
faulted-is : (m number : ℕ) → position_said (record { carry = carrying number 0 0 0; gap = 0; message = replicate m 0 })
    ≡ record { carry = carrying number 0 0 0; gap = 0; position = 0 }
faulted-is m number = ap (λ (p : ℕ). record { carry = carrying number 0 0 0; gap = 0; position = p }) (number-zeros m)

pub rod_read_demand_1 : (m : ℕ) (l : List ℤ) → RodReadDemand1 m l
unfolding reading_rod
rod_read_demand_1 m l =
    let b : List ℕ = replicate (suc m) 0 in
    let w : List ℕ = replicate (2 ^ m) 0 in
    let g =
    guard_meets _ (b ∷ w ∷ []) (rod_search m l) (replicate m 0) (first_order_demand_1 m l b w 1) (engine_bits m l) (engine_small m l) in
    record {
      link = g.link;
      link_refused = λ why f.
          ap position_said (g.link_refused why f) ∙ ap (λ (p : ℕ). record { carry = (no_position (Link why)).carry; gap = 0; position = p }) (number-zeros m);
      thirteen = g.thirteen;
      marked = λ e. ap position_said (g.marked e) ∙ faulted-is m 13;
      shown = g.shown;
      most = g.most;
      no_place = g.no_place;
    }

-- ---- the writer: each return
number : WriteOutcome → ℕ
number o = o.carry.number

module _ (m position : ℕ) (word : List ℕ) where
  abbrev o : WriteOutcome
  o = writing_rod m position word

  abbrev Meeting : WriteOutcome → Type 0
  Meeting = RodWriterMeets m position word

  coded : (some : m ≡ 0 → ⊥) → m ≤ largest_m → NoCode m → ⊥
  coded some small = ⊎_elim some (λ h. omega arith)

  none_met : NoCode m → o ≡ record { carry = carrying 1 0 0 0; word = word } → Meeting o
  none_met h e =
      rw e
      (record {
        one = (λ z. h, λ z. refl);
        three = (λ z. absurd (omega arith), λ z. absurd (z.0 h));
        sixteen = (λ z. absurd (omega arith), λ z. absurd (z.0 h));
        done = (λ z. absurd (omega arith), λ z. absurd (z.0 h));
        refused = λ z. refl;
      })

  pub rod_write_demand_1 : RodWriteDemand1 m position word
  rod_write_demand_1 =
      elim (ℕ_discrete m 0) [
        | yes z ↦ none_met (inl z) (writing-none m position word z)
        | no z ↦
            ⊎_elim
            (λ (h : largest_m < m). none_met (inr h) (writing_above m position word z h))
            (λ (h : m ≤ largest_m).
            let code = coded z h in
            elim (ℕ_discrete (length word) (2 ^ m)) [
              | no f ↦
                  rw (writing_short m position word z h f)
                  (record {
                    one = (λ k. absurd (omega arith), λ k. absurd (code k));
                    three = (λ k. (code, f), λ k. refl);
                    sixteen = (λ k. absurd (omega arith), λ k. absurd (f k.1));
                    done = (λ k. absurd (omega arith), λ k. absurd (f k.1));
                    refused = λ k. refl;
                  })
              | yes e ↦
                  ⊎_elim
                  (λ (k : position < 2 ^ m).
                  rw (writing-done m position word z h e k)
                  (record {
                    one = (λ n. absurd (omega arith), λ n. absurd (code n));
                    three = (λ n. absurd (omega arith), λ n. absurd (n.1 e));
                    sixteen = (λ n. absurd (omega arith), λ n. absurd (omega (arith, k, n.2)));
                    done = (λ n. (code, e, k), λ n. refl);
                    refused = λ n. absurd (omega arith);
                  }))
                  (λ (k : 2 ^ m ≤ position).
                  rw (writing_large m position word z h e k)
                  (record {
                    one = (λ n. absurd (omega arith), λ n. absurd (code n));
                    three = (λ n. absurd (omega arith), λ n. absurd (n.1 e));
                    sixteen = (λ n. (code, e, k), λ n. refl);
                    done = (λ n. absurd (omega arith), λ n. absurd (omega (arith, k, n.2)));
                    refused = λ n. refl;
                  }))
                  (lt_or_le position (2 ^ m))
            ])
            (lt_or_le largest_m m)
      ]
