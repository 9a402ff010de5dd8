-- Making a table, and appending to a capture and its table, meet demand 1.
use Rattle.std.proofs.Math.Path.{◌≡◌, refl, ap}
use Rattle.std.proofs.Common.{sym, subst, ◌∙◌, inl, inr, ⊎_elim, arith, eq-eqb, ne_eqb, le-leb, lt-ltb, le-ltb}
use Rattle.std.specs.Prelude.{◌⊎◌, true, false, ℤ, Result, Ok, Err}
use mathlib.Core.List.{List, [], ◌∷◌}
use Prim.Native.Nat.{ℕ, zero, suc, ◌/◌, ◌%◌, ◌≤◌, ◌<◌}
use Rattle.std.proofs.Math.Decide.{ℕ_discrete}
use Rattle.std.proofs.Math.ListN.{length}
use Rattle.std.proofs.lemmas.Bool.{lt-leb}
use Rattle.numbers.specs.Choice.{lt_or_le}
use Rattle.code.specs.declared.Refusal.{Refusal}
use Rattle.code.specs.declared.Refusal.TheVariants.{Parameters, Torn}
use Rattle.code.specs.Sound.{rm}
use Rattle.code.specs.Demand1.{refused_as}
use Rattle.code.specs.Demand1Laws.{Decides, demand_1}
use Rattle.record.specs.Writing.{writable}
use Rattle.record.specs.WritingDemandMet.{decides_writing}
use Rattle.index.specs.Finding.{block}
use Rattle.index.specs.declared.Index.{Index}
use Rattle.index.specs.Steps.{stepped, onward, passed, Starts, these, refused, and_these, starts_after, starts_from, starts_at, starts_of}
use Rattle.index.proofs.StepsLaws.{step_goes, starts-next, starts-refused}
use Rattle.index.specs.Making.{entries_of, index_of, made_by, making, list_of}
use Rattle.index.specs.Appending.{largest_count, full, appended_by, appending}
use Rattle.index.proofs.AppendingLaws.{append-refused, append-full, append-done}
use Rattle.index.specs.Demands.{made_view, MetFrom, make_checks, MakeDemand1, appended_view, NoRoom, entry_checks, append_checks, AppendDemand1}
use Rattle.index.proofs.DemandsMet.{step_why}
use Rattle.code.specs.declared.Code.{Code}

-- ---- the starts give exactly the refusal that stepping meets
and-refused : (at : ℕ) (starts : Starts) (why : Refusal) → and_these at starts ≡ refused why → starts ≡ refused why
and-refused at (these l) why e = let z : ◌≡◌ {A = ℕ} 0 1 = cc in absurd (omega arith)
and-refused at (refused first) why e = e

module _ (s : List ℕ) (why : Refusal) where
  met_later : (at next : ℕ) → stepped s at ≡ Ok next → MetFrom s next why → MetFrom s at why
  unfolding passed
  met_later at next e later =
      record {
        count = suc later.count;
        place = later.place;
        led = ap (λ (p : Result ℕ Refusal). onward p (λ n. passed s later.count n)) e ∙ later.led;
        inside = later.inside;
        refuses = later.refuses;
      }

  starts_met : (k at : ℕ) → at ≤ length s → starts_from k s at ≡ refused why → MetFrom s at why
  unfolding starts_from passed
  starts_met zero at h e = let z : ◌≡◌ {A = ℕ} 0 1 = cc in absurd (omega arith)
  starts_met (suc k) at h e =
      elim (ℕ_discrete at (length s)) [
        | yes end ↦ let none : these [] ≡ refused why = rw (eq-eqb at (length s) end) at e in let z : ◌≡◌ {A = ℕ} 0 1 = cc in absurd (omega arith)
        | no more ↦ by (λ next i f. starts_met k next i f) (omega (arith, more)) (stepped s at) refl (rw (ne_eqb at (length s) more) at e)
      ]
    where
      by : ((next : ℕ) → next ≤ length s → starts_from k s next ≡ refused why → MetFrom s next why) → at < length s
          → (p : Result ℕ Refusal) → stepped s at ≡ p → starts_after at p (λ next. starts_from k s next) ≡ refused why → MetFrom s at why
      by again inside (Err first) f g =
          let same : first ≡ why = cc in
          record { count = 0; place = at; led = refl; inside = inside; refuses = f ∙ ap Err same }
      by again inside (Ok next) f g =
          met_later at next f (again next (step_goes s at next f).there (and-refused at (starts_from k s next) why g))

  met_starts : (count at place : ℕ) → passed s count at ≡ Ok place → place < length s → stepped s place ≡ Err why → starts_at s at ≡ refused why
  unfolding passed
  met_starts zero at place led h e = let same : at ≡ place = cc in rw same (starts-refused s place why h e)
  met_starts (suc count) at place led h e = by (λ next f. met_starts count next place f h e) (stepped s at) refl led
    where
      by : ((next : ℕ) → passed s count next ≡ Ok place → starts_at s next ≡ refused why)
          → (p : Result ℕ Refusal) → stepped s at ≡ p → onward p (λ next. passed s count next) ≡ Ok place → starts_at s at ≡ refused why
      by again (Err first) f g = let z : ◌≡◌ {A = ℕ} 0 1 = cc in absurd (omega arith)
      by again (Ok next) f g = starts-next s at next (step_goes s at next f).inside f ∙ ap (and_these at) (again next g)

  met_refused : MetFrom s 0 why → starts_of s ≡ refused why
  met_refused met = met_starts met.count 0 met.place met.led met.inside met.refuses

-- ---- making
module _ (s table : List ℕ) where
  make_decides : (starts : Starts) → starts_of s ≡ starts → Decides (table ∷ []) (made_view (made_by starts s table)) (make_checks s table)
  make_decides (refused why) e =
      let met = starts_met s why (length s) 0 (omega arith) e in
      ⊎_elim
      (λ one. inl (subst (MetFrom s 0) one met, ap (λ (w : Refusal). refused_as w (table ∷ [])) one))
      (λ eight. inr (
        λ other. let z : ◌≡◌ {A = ℕ} 0 1 = cc (met_refused s Parameters other) in omega arith,
        inl (subst (MetFrom s 0) eight met, ap (λ (w : Refusal). refused_as w (table ∷ [])) eight),
      ))
      (step_why s met.place why met.refuses)
  make_decides (these l) e =
      let same : length (entries_of (list_of (starts_of s))) ≡ length (entries_of l) = ap (λ (x : Starts). length (entries_of (list_of x))) e in
      inr (
        λ met. let z : ◌≡◌ {A = ℕ} 0 1 = cc (met_refused s Parameters met) in omega arith,
        inr (
          λ met. let z : ◌≡◌ {A = ℕ} 0 1 = cc (met_refused s Torn met) in omega arith,
          ⊎_elim
              (λ short. inl (omega (arith, same), rw (lt-ltb (length table) (length (entries_of l)) short)))
              (λ room. inr (λ x. omega (arith, same), rw (le-ltb (length table) (length (entries_of l)) room) (refl, refl)))
              (lt_or_le (length table) (length (entries_of l))),
        ),
      )

  made_none : (starts : Starts) → 0 < (made_by starts s table).carry.number → (made_by starts s table).index ≡ index_of 0 0
  made_none (refused why) h = refl
  made_none (these l) h =
      ⊎_elim
      (λ short. rw (lt-ltb (length table) (length (entries_of l)) short))
      (λ room. absurd (omega (arith, rw (le-ltb (length table) (length (entries_of l)) room) at h)))
      (lt_or_le (length table) (length (entries_of l)))

  pub make_demand_1 : MakeDemand1 s table
  unfolding making
  make_demand_1 =
      record {
        checked = demand_1 (table ∷ []) (made_view (making s table)) (make_checks s table) (make_decides (starts_of s) refl);
        unsaid = made_none (starts_of s);
      }

-- ---- appending
module _ (index : Index) (table : List ℕ) where
  abbrev records : ℕ
  records = index.records

  -- room for the entry and for the count
  full_decided : (NoRoom index table × (full index (length table) ≡ true)) ⊎ ((NoRoom index table → ⊥) × (full index (length table) ≡ false))
  full_decided =
      elim (ℕ_discrete records largest_count) [
        | yes most ↦ inl (inl most, rw (eq-eqb records largest_count most))
        | no fewer ↦ elim (ℕ_discrete (records % block) 0) [
          | no other ↦ inr (
            λ x. ⊎_elim fewer (λ y. other y.0) x,
            rw (ne_eqb records largest_count fewer, ne_eqb (records % block) 0 other),
          )
          | yes first ↦ ⊎_elim
              (λ room. inr (
                λ x. ⊎_elim fewer (λ y. omega (arith, y.1)) x,
                rw (ne_eqb records largest_count fewer, eq-eqb (records % block) 0 first, lt-leb (length table) (records / block) room),
              ))
              (λ none. inl (
                inr (first, none),
                rw (ne_eqb records largest_count fewer, eq-eqb (records % block) 0 first, le-leb (length table) (records / block) none),
              ))
              (lt_or_le (records / block) (length table))
        ]
      ]

module _ (index : Index) (r m : ℕ) (l : List ℤ) (capture table : List ℕ) where
  append_decides : Decides (capture ∷ table ∷ []) (appended_view (appending index r m l capture table)) (append_checks index r m l capture table)
  append_decides =
      let before = capture ∷ table ∷ [] in
      decides_writing r m l capture index.used before (appended_view (appending index r m l capture table)) (entry_checks index table)
      (λ why e. ap appended_view (sym (append-refused index r m l capture table why e)))
      (λ e. ⊎_elim
      (λ x. inl (x.0, ap appended_view (sym (append-full index r m l capture table (rm r m) e x.1))))
      (λ x. inr (x.0, rw (← append-done index r m l capture table (rm r m) e x.1) (refl, refl)))
      (full_decided index table))

  append-none : (a : Result Code Refusal) → let o = appended_by a index r m l capture table in 0 < o.carry.number → o.index ≡ index_of 0 0
  append-none (Err why) h = refl
  append-none (Ok c) h =
      ⊎_elim (λ x. rw x.1) (λ x. absurd (omega (arith, rw x.1 at h))) (full_decided index table)

  pub append_demand_1 : AppendDemand1 index r m l capture table
  unfolding appending
  append_demand_1 =
      record {
        checked =
            demand_1 (capture ∷ table ∷ []) (appended_view (appending index r m l capture table)) (append_checks index r m l capture table) append_decides;
        unsaid = append-none (writable r m l (length capture) index.used);
      }
