-- Finding a record by its number meets demand 1.
use Rattle.std.specs.Prelude.{◌≡◌, refl, List, [], ℕ, zero, suc, ◌-◌, ◌/◌, ◌%◌, ◌<◌, length, get_or, drop, Result, Ok, Err}
use Rattle.std.proofs.Common.{ap, sym, subst, ◌∙◌, inl, inr, ⊎_elim, arith, eq-eqb, ne_eqb}
use Rattle.std.proofs.Math.Decide.{ℕ_discrete}
use Rattle.numbers.specs.Choice.{lt_or_le}
use Rattle.code.specs.declared.Refusal.{Refusal}
use Rattle.code.specs.Demand1Laws.{Decides, demand_1}
use Rattle.record.specs.Reader.{header_of, outcome_of, part_by}
use Rattle.record.specs.Demands.{header_view}
use Rattle.record.proofs.DemandsMet.{header_decides, header_none}
use Rattle.index.specs.Steps.{bytes_at, stepped, onward, passed}
use Rattle.index.proofs.StepsLaws.{step_past, step_bad, step_torn, step_next}
use Rattle.index.specs.Finding.{block, as_start, start_in, header_at, part_at, header_in, part_after, part_start_at}
use Rattle.index.proofs.FindingLaws.{start_none, start_past, start_by}
use Rattle.index.specs.Demands.{stepping_checks, find_checks, FindDemand1}
use Rattle.index.specs.DemandsMet.{ParametersOrTorn}
use Rattle.code.specs.declared.Code.{Code}

pub step_why : (s : List ℕ) (at : ℕ) (why : Refusal) → stepped s at ≡ Err why → ParametersOrTorn why
step_why s at why e =
    ⊎_elim
    (λ inside.
    elim (ℕ_discrete (bytes_at s at) 0) [
      | yes z ↦ inl (cc (step_bad s at inside z))
      | no some ↦
          ⊎_elim
          (λ torn. inr (cc (step_torn s at inside some torn)))
          (λ whole. let z : ◌≡◌ {A = ℕ} 0 1 = cc (step_next s at inside some whole) in absurd (omega arith))
          (lt_or_le (length s - at) (bytes_at s at))
    ])
    (λ past. inr (cc (step_past s at past)))
    (lt_or_le at (length s))

passed_why : (s : List ℕ) (count at : ℕ) (why : Refusal) → passed s count at ≡ Err why → ParametersOrTorn why
unfolding passed
passed_why s zero at why e = let z : ◌≡◌ {A = ℕ} 0 1 = cc in absurd (omega arith)
passed_why s (suc count) at why e = by (λ next f. passed_why s count next why f) (stepped s at) refl e
  where
    by : ((next : ℕ) → passed s count next ≡ Err why → ParametersOrTorn why)
        → (x : Result ℕ Refusal) → stepped s at ≡ x → onward x (λ next. passed s count next) ≡ Err why → ParametersOrTorn why
    by again (Err first) f g = step_why s at why (f ∙ g)
    by again (Ok next) f g = again next g

-- ---- the checks
stepping_decides : (s : List ℕ) (led : Result ℕ Refusal) → ((why : Refusal) → led ≡ Err why → ParametersOrTorn why)
    → Decides [] (header_view (outcome_of (header_at s (as_start s led)))) (stepping_checks s led)
stepping_decides s (Err why) of =
    ⊎_elim
    (λ e. inl (ap Err e, ap (λ (w : Refusal). header_view (outcome_of (Err w))) e))
    (λ e. inr (
      λ x. let z : ◌≡◌ {A = ℕ} 0 1 = cc in omega arith,
      inl (ap Err e, ap (λ (w : Refusal). header_view (outcome_of (Err w))) e),
    ))
    (of why refl)
stepping_decides s (Ok p) of =
    inr (
      λ x. let z : ◌≡◌ {A = ℕ} 0 1 = cc in omega arith,
      inr (
        λ x. let z : ◌≡◌ {A = ℕ} 0 1 = cc in omega arith,
        elim (ℕ_discrete p (length s)) [
          | yes e ↦ inl (ap Ok e, rw (eq-eqb p (length s) e))
          | no n ↦ inr (λ x. n (cc x), rw (ne_eqb p (length s) n) (header_decides (drop p s)))
        ],
      ),
    )

module _ (s table : List ℕ) (w : ℕ) where
  find_decides : Decides [] (header_view (outcome_of (header_in s table w))) (find_checks s table w)
  find_decides =
      let entry = get_or table (w / block) 0 in
      let led = passed s (w % block) entry in
      ⊎_elim
      (λ there. inr (
        λ x. omega arith,
        ⊎_elim
            (λ inside. inr (
              λ x. omega arith,
              subst (λ (p : Result ℕ Refusal). Decides [] (header_view (outcome_of (header_at s p))) (stepping_checks s led))
                  (sym (start_by s table w there inside))
                  (stepping_decides s led (passed_why s (w % block) entry)),
            ))
            (λ past. inl (past, ap (λ (p : Result ℕ Refusal). header_view (outcome_of (header_at s p))) (sym (start_past s table w there past))))
            (lt_or_le entry (length s)),
      ))
      (λ none. inl (none, ap (λ (p : Result ℕ Refusal). header_view (outcome_of (header_at s p))) (sym (start_none s table w none))))
      (lt_or_le (w / block) (length table))

-- ---- no part under a refusal
header_no_part : (h : Result Code Refusal) (s : List ℕ) (start : ℕ) → 0 < (outcome_of h).carry.number → (part_by h s ≡ []) × (part_after h start ≡ 0)
header_no_part (Err why) s start k = (refl, refl)
header_no_part (Ok c) s start k = absurd (omega arith)

place_no_part : (s : List ℕ) (p : Result ℕ Refusal) → 0 < (outcome_of (header_at s p)).carry.number → (part_at s p ≡ []) × (part_start_at s p ≡ 0)
place_no_part s (Err why) k = (refl, refl)
place_no_part s (Ok start) k = header_no_part (header_of (drop start s)) (drop start s) start k

pub find_demand_1 : (s table : List ℕ) (w : ℕ) → FindDemand1 s table w
find_demand_1 s table w =
    record {
      checked = demand_1 [] (header_view (outcome_of (header_in s table w))) (find_checks s table w) (find_decides s table w);
      unsaid = header_none (header_in s table w);
      no_part = place_no_part s (start_in s table w);
    }
