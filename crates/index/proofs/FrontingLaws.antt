-- Laws of a capture's front: its run record by record; its part is a capture of whole records, and what ended it refuses every longer part.
use Rattle.std.specs.Prelude.{◌≡◌, refl, ℕ, zero, suc, ◌+◌, ◌-◌, ◌≤◌, ◌<◌, length, get_or, take, Option, None, Some, Result, Ok, Err}
use Rattle.std.proofs.Common.{ap, subst, sym, ◌∙◌, inl, inr, ⊎_elim, arith, pow_pos, length-take-le, get_or-take, eq-eqb, ne_eqb, lt-ltb, le-ltb}
use mathlib.Core.List.{List, [], ◌∷◌, ◌++◌}
use Rattle.std.proofs.Math.Decide.{ℕ_discrete}
use Rattle.std.proofs.Math.ListN.{drop}
use Rattle.numbers.specs.Choice.{lt_or_le}
use Rattle.code.specs.RefusalLaws.{number_above}
use Rattle.code.specs.Sound.{number_of}
use Rattle.code.specs.declared.Refusal.{Refusal}
use Rattle.code.specs.declared.Refusal.TheVariants.{OutputLength}
use Rattle.packing.specs.Layout.{part_length}
use Rattle.record.specs.Reader.{code_of, length_by}
use Rattle.index.specs.declared.FrontIndex.{FrontIndex}
use Rattle.index.specs.Steps.{bytes_at, stepped, Starts, these, refused, and_these, starts_after, starts_from, starts_at, starts_of}
use Rattle.index.specs.Making.{entries_of, index_of, counted, entries_for, list_of, Enterable, entered}
use Rattle.index.specs.Fronting.{Run, number_in, run_end, and_run, run_after, run_from, run_at, run_of, front_outcome_of, front_by, fronting}
use Rattle.index.specs.StepsLaws.{Goes}
use Rattle.index.proofs.StepsLaws.{step_bad, step_torn, step_next, step_goes, starts-end, starts-next, starts-refused}
use Rattle.index.proofs.MakingLaws.{length_entries}
use Rattle.index.specs.FrontingLaws.{Halted, Stops}
use Rattle.code.specs.declared.Code.{Code}

-- the starts of a run, or the refusal that ended it
abbrev starts_in : Option Refusal → List ℕ → Starts
starts_in None l = these l
starts_in (Some why) l = refused why

-- ---- the run from a place on
fuel_end : (k : ℕ) (s : List ℕ) → run_from k s (length s) ≡ run_end (length s) None
unfolding run_from
fuel_end zero s = refl
fuel_end (suc k) s = rw (eq-eqb (length s) (length s) refl)

fuel_on : (k : ℕ) (s : List ℕ) (at : ℕ) → at < length s → run_from (suc k) s at ≡ run_after at (stepped s at) (λ next. run_from k s next)
unfolding run_from
fuel_on k s at h = rw (ne_eqb at (length s) (λ e. omega arith))

after_same : (f g : ℕ → Run) (s : List ℕ) (at : ℕ) (p : Result ℕ Refusal) → stepped s at ≡ p → ((next : ℕ) → Goes s at next → f next ≡ g next)
    → run_after at p f ≡ run_after at p g
after_same f g s at (Err why) e h = refl
after_same f g s at (Ok next) e h = ap (and_run at) (h next (step_goes s at next e))

-- as many as there are bytes left are enough
fuel_same : (k k' : ℕ) (s : List ℕ) (at : ℕ) → at ≤ length s → length s - at ≤ k → length s - at ≤ k' → run_from k s at ≡ run_from k' s at
fuel_same zero k' s at h f g =
    let e : at ≡ length s = omega arith in
    rw e (fuel_end zero s ∙ sym (fuel_end k' s))
fuel_same (suc k) zero s at h f g =
    let e : at ≡ length s = omega arith in
    rw e (fuel_end (suc k) s ∙ sym (fuel_end zero s))
fuel_same (suc k) (suc k') s at h f g =
    ⊎_elim
    (λ inside.
    fuel_on k s at inside
    ∙ after_same (λ next. run_from k s next) (λ next. run_from k' s next) s at (stepped s at) refl
    (λ next go. fuel_same k k' s next go.there (omega (arith, go.further)) (omega (arith, go.further)))
    ∙ sym (fuel_on k' s at inside))
    (λ past.
    let e : at ≡ length s = omega arith in
    rw e (fuel_end (suc k) s ∙ sym (fuel_end (suc k') s)))
    (lt_or_le at (length s))

module _ (s : List ℕ) (at : ℕ) where
  run_end_lem : at ≡ length s → run_at s at ≡ run_end at None
  run_end_lem e = rw e (fuel_end (length s) s)

  module _ (h : at < length s) where
    run_on : run_at s at ≡ run_after at (stepped s at) (run_at s)
    run_on = fuel_same (length s) (suc (length s)) s at (omega arith) (omega arith) (omega arith) ∙ fuel_on (length s) s at h

    run-next : (next : ℕ) → stepped s at ≡ Ok next → run_at s at ≡ and_run at (run_at s next)
    run-next next e = run_on ∙ ap (λ (p : Result ℕ Refusal). run_after at p (run_at s)) e

    run-refused : (why : Refusal) → stepped s at ≡ Err why → run_at s at ≡ run_end at (Some why)
    run-refused why e = run_on ∙ ap (λ (p : Result ℕ Refusal). run_after at p (run_at s)) e

-- ---- in steps, as code makes it
abbrev front_index : ℕ → ℕ → Option Refusal → FrontIndex
front_index records used ended = record { index = index_of records used; ended = ended }

module _ (s : List ℕ) (n at : ℕ) where
  pub front_on : (next : ℕ) → at < length s → stepped s at ≡ Ok next → front_by n (run_at s at) ≡ front_by (n + 1) (run_at s next)
  front_on next h e =
      let run = run_at s next in
      ap (front_by n) (run-next s at h next e) ∙ ap (λ (k : ℕ). front_index k run.used run.why) (omega arith)

  pub front-refused : (why : Refusal) → at < length s → stepped s at ≡ Err why
      → front_by n (run_at s at) ≡ record { index = index_of n at; ended = Some why }
  front-refused why h e = ap (front_by n) (run-refused s at h why e) ∙ ap (λ (k : ℕ). front_index k at (Some why)) (omega arith)

  pub front-end : at ≡ length s → front_by n (run_at s at) ≡ record { index = index_of n at; ended = None }
  front-end e = ap (front_by n) (run_end_lem s at e) ∙ ap (λ (k : ℕ). front_index k at None) (omega arith)

-- ---- a step, seen from a part at the capture's front
module _ (s : List ℕ) (n : ℕ) (h : n ≤ length s) where
  part_length_lem : length (take n s) ≡ n
  part_length_lem = length-take-le n s h

  part_bytes : (at : ℕ) → at < n → bytes_at (take n s) at ≡ bytes_at s at
  part_bytes at i = ap (λ (b : ℕ). length_by (code_of b)) (get_or-take n s at 0 i)

  -- a whole record of the part
  part_step : (at next : ℕ) → Goes s at next → next ≤ n → stepped (take n s) at ≡ Ok next
  part_step at next go i =
      let same = part_bytes at (omega (arith, go.further)) in
      let long = part_length_lem in
      step_next (take n s) at (omega (arith, go.further)) (λ z. omega (arith, go.by, go.further)) (omega (arith, go.by))
      ∙ ap Ok (omega (arith, go.by))

  -- a record that is refused is refused in the same way
  part-refused : (at : ℕ) (why : Refusal) → at < n → stepped s at ≡ Err why → stepped (take n s) at ≡ Err why
  part-refused at why i e =
      let same = part_bytes at i in
      let long = part_length_lem in
      elim (ℕ_discrete (bytes_at s at) 0) [
        | yes z ↦ step_bad (take n s) at (omega arith) (same ∙ z) ∙ sym (step_bad s at (omega arith) z) ∙ e
        | no some ↦
            ⊎_elim
            (λ torn.
            step_torn (take n s) at (omega arith) (λ z. some (sym same ∙ z)) (omega arith) ∙ sym (step_torn s at (omega arith) some torn) ∙ e)
            (λ whole. let z : ◌≡◌ {A = ℕ} 0 1 = cc (step_next s at (omega arith) some whole) in absurd (omega arith))
            (lt_or_le (length s - at) (bytes_at s at))
      ]

-- ---- a record has at least 3 bytes
three_bytes : (k : Result Code Refusal) → 0 < length_by k → 3 ≤ length_by k
unfolding part_length
three_bytes (Err _) h = absurd (omega arith)
three_bytes (Ok c) h = omega (arith, pow_pos c.m)

goes_three : (s : List ℕ) (at next : ℕ) → Goes s at next → at + 3 ≤ next
goes_three s at next go = omega (arith, go.by, go.further, three_bytes (code_of (get_or s at 0)) (omega (arith, go.by, go.further)))

module _ (s : List ℕ) where
  none_there : (at : ℕ) → at ≤ length s → starts_at (take at s) at ≡ these []
  none_there at h = starts-end (take at s) at (sym (part_length_lem s at h))

  stops_end : (at : ℕ) → at ≡ length s → Stops s at (run_at s at)
  stops_end at e =
      subst (Stops s at) (sym (run_end_lem s at e))
      (record { on = omega arith; inside = omega arith; few = omega arith; whole = none_there at (omega arith); stop = inl (refl, e) })

  stops-refused : (at : ℕ) (why : Refusal) → at < length s → stepped s at ≡ Err why → Stops s at (run_at s at)
  stops-refused at why h e =
      let halted : Halted s at at (number_of why) =
      record {
        why = why;
        number = refl;
        below = h;
        refuses = e;
        longer = λ n i j. starts-refused (take n s) at why (omega (arith, part_length_lem s n j)) (part-refused s n j at why i e);
      } in
      subst (Stops s at) (sym (run-refused s at h why e))
      (record { on = omega arith; inside = omega arith; few = omega arith; whole = none_there at (omega arith); stop = inr halted })

  -- one record before
  starts-before : (at next : ℕ) → Goes s at next → stepped s at ≡ Ok next → (n : ℕ) → next ≤ n → n ≤ length s → (x : Starts)
      → starts_at (take n s) next ≡ x → starts_at (take n s) at ≡ and_these at x
  starts-before at next go e n i j x f =
      starts-next (take n s) at next (omega (arith, part_length_lem s n j, go.further)) (part_step s n j at next go i) ∙ ap (and_these at) f

  stops-next : (at next : ℕ) → at < length s → stepped s at ≡ Ok next → Stops s next (run_at s next) → Stops s at (run_at s at)
  stops-next at next h e later =
      let go = step_goes s at next e in
      let run = run_at s next in
      subst (Stops s at) (sym (run-next s at h next e))
      (record {
        on = omega (arith, go.further, later.on);
        inside = later.inside;
        few = omega (arith, later.few, goes_three s at next go);
        whole = starts-before at next go e run.used later.on later.inside (these run.starts) later.whole;
        stop = ⊎_elim
            (λ end. inl end)
            (λ x. inr (record {
              why = x.why;
              number = x.number;
              below = x.below;
              refuses = x.refuses;
              longer = λ n i j. starts-before at next go e n (omega (arith, later.on)) j (refused x.why) (x.longer n i j);
            }))
            later.stop;
      })

  stops_from : (k at : ℕ) → at ≤ length s → length s - at ≤ k → Stops s at (run_at s at)
  stops_from zero at h f = stops_end at (omega arith)
  stops_from (suc k) at h f =
      ⊎_elim
      (λ inside. by (λ next i j. stops_from k next i j) inside (stepped s at) refl)
      (λ past. stops_end at (omega arith))
      (lt_or_le at (length s))
    where
      by : ((next : ℕ) → next ≤ length s → length s - next ≤ k → Stops s next (run_at s next)) → at < length s → (p : Result ℕ Refusal) → stepped s at ≡ p
          → Stops s at (run_at s at)
      by again inside (Err why) e = stops-refused at why inside e
      by again inside (Ok next) e =
          let go = step_goes s at next e in
          stops-next at next inside e (again next go.there (omega (arith, go.further)))

  pub run-stops : Stops s 0 (run_of s)
  run-stops = stops_from (length s) 0 (omega arith) (omega arith)

-- ---- what ended a run, and the starts that are met; k records at most
module _ (s : List ℕ) where
  ended_after : (at : ℕ) (p : Result ℕ Refusal) (f : ℕ → Run) → ((next : ℕ) → (f next).ended ≡ number_in (f next).why)
      → let run = run_after at p f in run.ended ≡ number_in run.why
  ended_after at (Err why) f h = refl
  ended_after at (Ok next) f h = h next

  ended_from : (k at : ℕ) → let run = run_from k s at in run.ended ≡ number_in run.why
  unfolding run_from
  ended_from zero at = refl
  ended_from (suc k) at =
      elim (ℕ_discrete at (length s)) [
        | yes e ↦ rw (eq-eqb at (length s) e)
        | no n ↦ rw (ne_eqb at (length s) n) (ended_after at (stepped s at) (λ next. run_from k s next) (ended_from k))
      ]

  pub ended_is : (run_of s).ended ≡ number_in (run_of s).why
  ended_is = ended_from (length s) 0

  -- all starts, or the refusal
  abbrev met : Run → Starts
  met run = starts_in run.why run.starts

  met_and : (at : ℕ) (run : Run) → and_these at (met run) ≡ met (and_run at run)
  met_and at run = by run.why
    where
      by : (why : Option Refusal) → and_these at (starts_in why run.starts) ≡ starts_in why (at ∷ run.starts)
      by None = refl
      by (Some why) = refl

  met_after : (at : ℕ) (p : Result ℕ Refusal) (f : ℕ → Starts) (g : ℕ → Run) → ((next : ℕ) → f next ≡ met (g next))
      → starts_after at p f ≡ met (run_after at p g)
  met_after at (Err why) f g h = refl
  met_after at (Ok next) f g h = ap (and_these at) (h next) ∙ met_and at (g next)

  met_from : (k at : ℕ) → starts_from k s at ≡ met (run_from k s at)
  unfolding run_from starts_from
  met_from zero at = refl
  met_from (suc k) at =
      elim (ℕ_discrete at (length s)) [
        | yes e ↦ rw (eq-eqb at (length s) e)
        | no n ↦ rw (ne_eqb at (length s) n) (met_after at (stepped s at) (λ next. starts_from k s next) (λ next. run_from k s next) (met_from k))
      ]

  pub run_starts : starts_of s ≡ starts_in (run_of s).why (run_of s).starts
  run_starts = met_from (length s) 0

  -- none means the capture's end
  pub all_used : (run_of s).why ≡ None → (run_of s).used ≡ length s
  all_used e =
      let z : (run_of s).ended ≡ 0 = ended_is ∙ ap number_in e in
      ⊎_elim (λ end. end.1) (λ h. absurd (omega (arith, number_above h.why, h.number, z))) (run-stops s).stop

-- ---- what making finds, by the front that was found
module _ (s : List ℕ) (found : FrontIndex) (is : found ≡ front_by 0 (run_of s)) where
  why_is : found.ended ≡ (run_of s).why
  why_is = ap (λ (f : FrontIndex). f.ended) is

  pub found_refused : (why : Refusal) → found.ended ≡ Some why → Err why ≡ counted 0 (starts_of s)
  found_refused why e =
      sym (ap (counted 0) (run_starts s ∙ ap (λ (w : Option Refusal). starts_in w (run_of s).starts) (sym why_is ∙ e)))

  pub found_whole : found.ended ≡ None → Ok found.index.records ≡ counted 0 (starts_of s)
  found_whole e =
      ap (λ (f : FrontIndex). Ok f.index.records) is
      ∙ sym (ap (counted 0) (run_starts s ∙ ap (λ (w : Option Refusal). starts_in w (run_of s).starts) (sym why_is ∙ e)))

  pub found_used : found.ended ≡ None → found.index.used ≡ length s
  found_used e = ap (λ (f : FrontIndex). f.index.used) is ∙ all_used s (sym why_is ∙ e)

-- ---- the two answers, by the front that was found
module _ (s table : List ℕ) where
  abbrev starts : List ℕ
  starts = (run_of s).starts

  list_is : list_of (starts_of (take (run_of s).used s)) ≡ starts
  list_is = ap list_of (run-stops s).whole

  entries_are : entries_for (0 + length starts) ≡ length (entries_of starts)
  entries_are = ap entries_for (omega arith) ∙ sym (length_entries starts)

  short_by : length table < entries_for (0 + length starts) → front_outcome_of (Err OutputLength) table ≡ fronting s table
  unfolding fronting
  short_by h = rw (lt-ltb (length table) (length (entries_of starts)) (omega (arith, entries_are)))

  room_by : entries_for (0 + length starts) ≤ length table → Enterable (take (run_of s).used s) (length table)
  room_by h =
      record {
        whole = (run-stops s).whole ∙ ap these (sym list_is);
        enough = omega (arith, entries_are, ap (λ (l : List ℕ). length (entries_of l)) list_is);
      }

  done_by : entries_for (0 + length starts) ≤ length table
      → front_outcome_of (Ok (front_by 0 (run_of s))) (entered (take (run_of s).used s) table) ≡ fronting s table
  unfolding fronting
  done_by h =
      rw (le-ltb (length table) (length (entries_of starts)) (omega (arith, entries_are)))
      (ap (λ (l : List ℕ). front_outcome_of (Ok (front_by 0 (run_of s))) (entries_of l ++ drop (length (entries_of l)) table)) list_is)

  module _ (found : FrontIndex) (is : found ≡ front_by 0 (run_of s)) where
    pub front-part : length (take found.index.used s) ≡ found.index.used
    front-part = subst (λ (f : FrontIndex). length (take f.index.used s) ≡ f.index.used) (sym is) (part_length_lem s (run_of s).used (run-stops s).inside)

    pub front_short : length table < entries_for found.index.records → front_outcome_of (Err OutputLength) table ≡ fronting s table
    front_short =
        subst (λ (f : FrontIndex). length table < entries_for f.index.records → front_outcome_of (Err OutputLength) table ≡ fronting s table)
        (sym is) short_by

    pub front-room : entries_for found.index.records ≤ length table → Enterable (take found.index.used s) (length table)
    front-room =
        subst (λ (f : FrontIndex). entries_for f.index.records ≤ length table → Enterable (take f.index.used s) (length table)) (sym is) room_by

    pub front-done : entries_for found.index.records ≤ length table
        → front_outcome_of (Ok found) (entered (take found.index.used s) table) ≡ fronting s table
    front-done =
        subst
        (λ (f : FrontIndex). entries_for f.index.records ≤ length table
        → front_outcome_of (Ok f) (entered (take f.index.used s) table) ≡ fronting s table)
        (sym is)
        done_by
