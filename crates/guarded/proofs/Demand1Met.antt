-- A guard after a search that meets demand 1 meets it too.
use Rattle.std.specs.Prelude.{◌≡◌, List, ℕ, ◌-◌, ◌≤◌, ◌<◌, length}
use Rattle.std.proofs.Common.{ap, ◌∙◌, arith}
use Rattle.std.proofs.Math.Decide.{ℕ_discrete}
use Rattle.words.specs.Bits.{Bits}
use Rattle.code.specs.declared.Refusal.{Refusal}
use Rattle.code.specs.RefusalLaws.{number_above}
use Rattle.code.specs.Sound.{carrying, number_of}
use Rattle.code.specs.Demand1.{View, Checks, First, Demand1}
use Rattle.search.specs.Outcome as Search
use Rattle.search.specs.Demands.{view}
use Rattle.guarded.specs.declared.Fault.TheVariants.{Link}
use Rattle.guarded.specs.Guard.{last_bit}
use Rattle.guarded.specs.Outcome.{GuardedOutcome, no_message, guarded}
use Rattle.guarded.proofs.GuardLaws.{guarded_other, guarded-shown, guarded_marked, shown-found, marked_found, passed_on_lem}
use Rattle.guarded.specs.Demand1.{Meets}

abbrev number : GuardedOutcome → ℕ
number o = o.carry.number

module _ (checks : Checks) (before : List (List ℕ)) (o : Search.Outcome) (room : List ℕ) (d : Demand1 checks before (view o))
    (bits : o.number ≡ 0 → Bits o.bits) (small : o.number < 13) where
  refused : (why : Refusal) → First (λ given. given ≡ why) checks → guarded o room ≡ no_message (Link why) room
  refused why f =
      let e = d.refused why f in
      let n : o.number ≡ number_of why = ap (λ (v : View). v.number) e in
      guarded_other o room (λ z. omega (arith, z, n, number_above why))
      ∙ ap (λ (v : View). record { carry = carrying v.number v.place v.penalty v.visits; gap = v.gap; message = room }) e

  most : number (guarded o room) ≤ 13
  most =
      elim (ℕ_discrete o.number 0) [
        | yes z ↦
            elim (ℕ_discrete (last_bit o.bits) 0) [
              | yes k ↦ omega (arith, ap number (guarded-shown o room z k))
              | no k ↦ omega (arith, ap number (guarded_marked o room z k))
            ]
        | no z ↦ omega (arith, small, ap number (guarded_other o room z))
      ]

  pub guard_meets : Meets checks o.bits room (guarded o room)
  guard_meets =
      record {
        link = λ n above below. (
          λ e. (d.number n above).0 ((passed_on_lem o room n above below).0 e),
          λ f. (passed_on_lem o room n above below).1 ((d.number n above).1 f),
        );
        link_refused = refused;
        thirteen = (
          λ e.
              let f = marked_found o room small e in
              let bit = bits f.0 (length o.bits - 1) in
              let one : last_bit o.bits ≡ 1 = elim (ℕ_discrete (last_bit o.bits) 0) [ yes z ↦ absurd (f.1 z) | no z ↦ omega (arith, z, bit) ] in
              (d.done.0 f.0, one),
          λ f. ap number (guarded_marked o room (d.done.1 f.0) (λ z. omega (arith, z, f.1))),
        );
        marked = λ e. let f = marked_found o room small e in guarded_marked o room f.0 f.1;
        shown = (
          λ e. let f = shown-found o room e in (d.done.0 f.0, f.1),
          λ f. ap number (guarded-shown o room (d.done.1 f.0) f.1),
        );
        most = most;
        no_place = λ e.
            let f = shown-found o room e in
            ap (λ (g : GuardedOutcome). g.carry.place) (guarded-shown o room f.0 f.1);
      }
