-- Laws of stepping: when each answer of a step is given; the starts from a place on, record by record.
use Rattle.std.specs.Prelude.{◌≡◌, refl, Bool, List, [], ◌∷◌, ℕ, zero, suc, ◌+◌, ◌-◌, ◌/◌, ◌%◌, ◌≤◌, ◌<◌, length, Result, Ok, Err}
use Rattle.std.proofs.Common.{ap, sym, ◌∙◌, ⊎_elim, arith}
use Rattle.std.proofs.Math.Bool.{cond}
use Rattle.std.proofs.Math.Decide.{ℕ_discrete}
use borrow.Author.Tests.{le-leb, lt-leb, lt-ltb, le-ltb, eq-eqb, ne_eqb}
use Rattle.numbers.specs.Choice.{lt_or_le}
use Rattle.code.specs.declared.Code.{Code}
use Rattle.code.specs.declared.Refusal.{Refusal}
use Rattle.code.specs.declared.Refusal.TheVariants.{Parameters, Torn}
use Rattle.code.specs.SoundLaws.{made_refused}
use Rattle.packing.specs.Layout.{part_length}
use Rattle.record.specs.Reader.{code_of, length_by, sized_by}
use Rattle.index.specs.Steps.{bytes_at, stepped, onward, passed, Starts, these, refused, and_these, starts_after, starts_from, starts_at}
use Rattle.index.specs.StepsLaws.{Goes, Begins}

-- ---- how many bytes a record has, as code has it
pub sized-none : (first : ℕ) (why : Refusal) → sized_by (code_of first) ≡ Err why → (why ≡ Parameters) × (length_by (code_of first) ≡ 0)
sized-none first why e = by (code_of first) refl e
  where
    by : (k : Result Code Refusal) → code_of first ≡ k → sized_by k ≡ Err why → (why ≡ Parameters) × (length_by k ≡ 0)
    by (Err why') f g = let same : why' ≡ why = cc in (sym same ∙ made_refused (first % 16) (first / 16) why' f, refl)
    by (Ok c) f g = let z : ◌≡◌ {A = ℕ} 0 1 = cc in absurd (omega arith)

pub sized-some : (first k : ℕ) → sized_by (code_of first) ≡ Ok k → (k ≡ length_by (code_of first)) × (0 < k)
sized-some first k e = by (code_of first) e
  where
    by : (c : Result Code Refusal) → sized_by c ≡ Ok k → (k ≡ length_by c) × (0 < k)
    by (Err why) g = let z : ◌≡◌ {A = ℕ} 0 1 = cc in absurd (omega arith)
    by (Ok c) g = let same : suc (part_length c.m) ≡ k = cc in (sym same, omega arith)

-- ---- the answers of a step, by its tests
module _ (s : List ℕ) (at : ℕ) where
  pub step_past : length s ≤ at → stepped s at ≡ Err Torn
  unfolding stepped
  step_past h = rw (le-leb (length s) at h)

  module _ (inside : at < length s) where
    pub step_bad : bytes_at s at ≡ 0 → stepped s at ≡ Err Parameters
    unfolding stepped
    step_bad e = rw (lt-leb (length s) at inside, eq-eqb (bytes_at s at) 0 e)

    module _ (some : bytes_at s at ≡ 0 → ⊥) where
      pub step_torn : length s - at < bytes_at s at → stepped s at ≡ Err Torn
      unfolding stepped
      step_torn h =
          rw (lt-leb (length s) at inside, ne_eqb (bytes_at s at) 0 some)
          (ap (λ (b : Bool). cond b (Err Torn) (Ok (at + bytes_at s at))) (lt-ltb (length s - at) (bytes_at s at) h))

      pub step_next : bytes_at s at ≤ length s - at → stepped s at ≡ Ok (at + bytes_at s at)
      unfolding stepped
      step_next h = rw (lt-leb (length s) at inside, ne_eqb (bytes_at s at) 0 some, le-ltb (length s - at) (bytes_at s at) h)

module _ (s : List ℕ) (at next : ℕ) (e : stepped s at ≡ Ok next) where
  not-refused : {A : Type 0} (why : Refusal) → stepped s at ≡ Err why → A
  not-refused why f = let z : ◌≡◌ {A = ℕ} 0 1 = cc in absurd (omega arith)

  pub step_goes : Goes s at next
  step_goes =
      ⊎_elim
      (λ inside.
      elim (ℕ_discrete (bytes_at s at) 0) [
        | yes z ↦ not-refused _ (step_bad s at inside z)
        | no some ↦
            ⊎_elim
            (λ torn. not-refused _ (step_torn s at inside some torn))
            (λ whole.
            let same : next ≡ at + bytes_at s at = cc (step_next s at inside some whole) in
            record { inside = inside; further = omega (arith, some); there = omega arith; by = same })
            (lt_or_le (length s - at) (bytes_at s at))
      ])
      (λ past. not-refused _ (step_past s at past))
      (lt_or_le at (length s))

-- ---- over several records
pub passed-more : (s : List ℕ) (left at : ℕ) → 0 < left → passed s left at ≡ onward (stepped s at) (λ next. passed s (left - 1) next)
unfolding passed
passed-more s zero at h = absurd (omega arith)
passed-more s (suc left) at h = let e : suc left - 1 ≡ left = omega arith in rw e

pub passed_on_lem : (s : List ℕ) (left at next : ℕ) → 0 < left → stepped s at ≡ Ok next → passed s left at ≡ passed s (left - 1) next
passed_on_lem s left at next h e = passed-more s left at h ∙ ap (λ (p : Result ℕ Refusal). onward p (λ next. passed s (left - 1) next)) e

pub passed-refused : (s : List ℕ) (left at : ℕ) (why : Refusal) → 0 < left → stepped s at ≡ Err why → passed s left at ≡ Err why
passed-refused s left at why h e = passed-more s left at h ∙ ap (λ (p : Result ℕ Refusal). onward p (λ next. passed s (left - 1) next)) e

-- none is left
pub passed_none : (s : List ℕ) (left at : ℕ) → left ≡ 0 → passed s left at ≡ Ok at
unfolding passed
passed_none s zero at e = refl
passed_none s (suc left) at e = absurd (omega arith)

-- ---- the starts from a place on
fuel_end : (k : ℕ) (s : List ℕ) → starts_from k s (length s) ≡ these []
unfolding starts_from
fuel_end zero s = refl
fuel_end (suc k) s = rw (eq-eqb (length s) (length s) refl)

fuel_on : (k : ℕ) (s : List ℕ) (at : ℕ) → at < length s → starts_from (suc k) s at ≡ starts_after at (stepped s at) (λ next. starts_from k s next)
unfolding starts_from
fuel_on k s at h = rw (ne_eqb at (length s) (λ e. omega arith))

after_same : (f g : ℕ → Starts) (s : List ℕ) (at : ℕ) (p : Result ℕ Refusal) → stepped s at ≡ p → ((next : ℕ) → Goes s at next → f next ≡ g next)
    → starts_after at p f ≡ starts_after at p g
after_same f g s at (Err why) e h = refl
after_same f g s at (Ok next) e h = ap (and_these at) (h next (step_goes s at next e))

-- as many as there are bytes left are enough
fuel_same : (k k' : ℕ) (s : List ℕ) (at : ℕ) → at ≤ length s → length s - at ≤ k → length s - at ≤ k' → starts_from k s at ≡ starts_from k' s at
fuel_same zero k' s at h f g =
    let e : at ≡ length s = omega arith in
    rw e (fuel_end zero s ∙ sym (fuel_end k' s))
fuel_same (suc k) zero s at h f g =
    let e : at ≡ length s = omega arith in
    rw e (fuel_end (suc k) s ∙ sym (fuel_end zero s))
fuel_same (suc k) (suc k') s at h f g =
    ⊎_elim
    (λ inside.
    fuel_on k s at inside
    ∙ after_same (λ next. starts_from k s next) (λ next. starts_from k' s next) s at (stepped s at) refl
    (λ next go. fuel_same k k' s next go.there (omega (arith, go.further)) (omega (arith, go.further)))
    ∙ sym (fuel_on k' s at inside))
    (λ past.
    let e : at ≡ length s = omega arith in
    rw e (fuel_end (suc k) s ∙ sym (fuel_end (suc k') s)))
    (lt_or_le at (length s))

pub starts-end : (s : List ℕ) (at : ℕ) → at ≡ length s → starts_at s at ≡ these []
starts-end s at e = rw e (fuel_end (length s) s)

pub starts_on : (s : List ℕ) (at : ℕ) → at < length s → starts_at s at ≡ starts_after at (stepped s at) (starts_at s)
starts_on s at h =
    fuel_same (length s) (suc (length s)) s at (omega arith) (omega arith) (omega arith) ∙ fuel_on (length s) s at h

pub starts-next : (s : List ℕ) (at next : ℕ) → at < length s → stepped s at ≡ Ok next → starts_at s at ≡ and_these at (starts_at s next)
starts-next s at next h e = starts_on s at h ∙ ap (λ (p : Result ℕ Refusal). starts_after at p (starts_at s)) e

pub starts-refused : (s : List ℕ) (at : ℕ) (why : Refusal) → at < length s → stepped s at ≡ Err why → starts_at s at ≡ refused why
starts-refused s at why h e = starts_on s at h ∙ ap (λ (p : Result ℕ Refusal). starts_after at p (starts_at s)) e

begins_with : (s : List ℕ) (at next : ℕ) (x : ℕ) (rest : List ℕ) (t : Starts) → stepped s at ≡ Ok next → starts_at s next ≡ t
    → and_these at t ≡ these (x ∷ rest) → Begins s at x rest
begins_with s at next x rest (refused why) e f g = let z : ◌≡◌ {A = ℕ} 0 1 = cc in absurd (omega arith)
begins_with s at next x rest (these l) e f g =
    let first : x ≡ at = cc in
    let same : l ≡ rest = cc in
    record { next = next; first = first; step = e; goes = step_goes s at next e; others = f ∙ ap these same }

begins_by : (s : List ℕ) (at x : ℕ) (rest : List ℕ) (p : Result ℕ Refusal) → at < length s → stepped s at ≡ p
    → starts_at s at ≡ these (x ∷ rest) → Begins s at x rest
begins_by s at x rest (Err why) h e f =
    let z : refused why ≡ these (x ∷ rest) = sym (starts-refused s at why h e) ∙ f in
    let n : ◌≡◌ {A = ℕ} 0 1 = cc in absurd (omega arith)
begins_by s at x rest (Ok next) h e f = begins_with s at next x rest (starts_at s next) e refl (sym (starts-next s at next h e) ∙ f)

pub starts_begin : (s : List ℕ) (at x : ℕ) (rest : List ℕ) → at ≤ length s → starts_at s at ≡ these (x ∷ rest) → Begins s at x rest
starts_begin s at x rest h f =
    ⊎_elim
    (λ inside. begins_by s at x rest (stepped s at) inside refl f)
    (λ past.
    let z : these [] ≡ these (x ∷ rest) = sym (starts-end s at (omega arith)) ∙ f in
    let n : ◌≡◌ {A = ℕ} 0 1 = cc in absurd (omega arith))
    (lt_or_le at (length s))

-- with none left, it is the end
pub starts_none : (s : List ℕ) (at : ℕ) → at ≤ length s → starts_at s at ≡ these [] → at ≡ length s
starts_none s at h f =
    ⊎_elim (λ inside. absurd (some_by (stepped s at) inside refl)) (λ past. omega arith) (lt_or_le at (length s))
  where
    some_with : (t : Starts) → and_these at t ≡ these [] → ⊥
    some_with (these l) g = let n : ◌≡◌ {A = ℕ} 0 1 = cc in omega arith
    some_with (refused why) g = let n : ◌≡◌ {A = ℕ} 0 1 = cc in omega arith

    some_by : (p : Result ℕ Refusal) → at < length s → stepped s at ≡ p → ⊥
    some_by (Err why) inside e =
        let z : refused why ≡ these [] = sym (starts-refused s at why inside e) ∙ f in
        let n : ◌≡◌ {A = ℕ} 0 1 = cc in omega arith
    some_by (Ok next) inside e = some_with (starts_at s next) (sym (starts-next s at next inside e) ∙ f)
