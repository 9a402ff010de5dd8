-- Laws of finding: when each answer is given, and that a start is inside the capture.
use Rattle.std.specs.Prelude.{◌≡◌, refl, List, ℕ, zero, suc, ◌/◌, ◌%◌, ◌≤◌, ◌<◌, length, get_or, Result, Ok, Err}
use Rattle.std.proofs.Common.{ap, sym, ◌∙◌, ⊎_elim, arith}
use Rattle.std.proofs.Math.Decide.{ℕ_discrete}
use borrow.Author.Tests.{le-leb, lt-leb, eq-eqb, ne_eqb}
use Rattle.numbers.specs.Choice.{lt_or_le}
use Rattle.code.specs.declared.Refusal.{Refusal}
use Rattle.code.specs.declared.Refusal.TheVariants.{Torn, NoEntry}
use Rattle.index.specs.Steps.{stepped, onward, passed}
use Rattle.index.specs.Finding.{as_start, start_in, block}
use Rattle.index.proofs.StepsLaws.{step_goes}

module _ (s table : List ℕ) (w : ℕ) where
  abbrev entry : ℕ
  entry = get_or table (w / block) 0

  pub start_none : length table ≤ w / block → Err NoEntry ≡ start_in s table w
  unfolding start_in
  start_none h = rw (le-leb (length table) (w / block) h)

  module _ (there : w / block < length table) where
    pub start_past : length s ≤ entry → Err Torn ≡ start_in s table w
    unfolding start_in
    start_past h = rw (lt-leb (length table) (w / block) there, le-leb (length s) entry h)

    module _ (inside : entry < length s) where
      -- then by stepping
      pub start_by : start_in s table w ≡ as_start s (passed s (w % block) entry)
      unfolding start_in
      start_by = rw (lt-leb (length table) (w / block) there, lt-leb (length s) entry inside)

      pub start-end : (p : ℕ) → passed s (w % block) entry ≡ Ok p → p ≡ length s → Err NoEntry ≡ start_in s table w
      start-end p e f = sym (start_by ∙ ap (as_start s) e ∙ rw (eq-eqb p (length s) f))

      pub start-found : (p : ℕ) → passed s (w % block) entry ≡ Ok p → (p ≡ length s → ⊥) → Ok p ≡ start_in s table w
      start-found p e f = sym (start_by ∙ ap (as_start s) e ∙ rw (ne_eqb p (length s) f))

      pub start-refused : (why : Refusal) → passed s (w % block) entry ≡ Err why → Err why ≡ start_in s table w
      start-refused why e = sym (start_by ∙ ap (as_start s) e)

-- ---- a start is inside the capture
passed_inside : (s : List ℕ) (count at p : ℕ) → at ≤ length s → passed s count at ≡ Ok p → p ≤ length s
unfolding passed
passed_inside s zero at p h e = let same : at ≡ p = cc in omega arith
passed_inside s (suc count) at p h e = by (λ next g f. passed_inside s count next p g f) (stepped s at) refl e
  where
    by : ((next : ℕ) → next ≤ length s → passed s count next ≡ Ok p → p ≤ length s)
        → (x : Result ℕ Refusal) → stepped s at ≡ x → onward x (λ next. passed s count next) ≡ Ok p → p ≤ length s
    by again (Err why) f g = let z : ◌≡◌ {A = ℕ} 0 1 = cc in absurd (omega arith)
    by again (Ok next) f g = again next (step_goes s at next f).there g

as_inside : (s : List ℕ) (x : Result ℕ Refusal) (p : ℕ) → ((q : ℕ) → x ≡ Ok q → q ≤ length s) → as_start s x ≡ Ok p → p < length s
as_inside s (Err why) p f e = let z : ◌≡◌ {A = ℕ} 0 1 = cc in absurd (omega arith)
as_inside s (Ok q) p f e =
    elim (ℕ_discrete q (length s)) [
      | yes g ↦ let z : ◌≡◌ {A = ℕ} 0 1 = cc (eq-eqb q (length s) g) in absurd (omega arith)
      | no g ↦ let same : q ≡ p = cc (ne_eqb q (length s) g) in omega (arith, f q refl, g)
    ]

pub start_inside : (s table : List ℕ) (w p : ℕ) → start_in s table w ≡ Ok p → p < length s
start_inside s table w p e =
    ⊎_elim
    (λ there.
    ⊎_elim
    (λ inside.
    as_inside s (passed s (w % block) (entry s table w)) p (λ q f. passed_inside s (w % block) (entry s table w) q (omega arith) f)
    (sym (start_by s table w there inside) ∙ e))
    (λ past. let z : ◌≡◌ {A = ℕ} 0 1 = cc (start_past s table w there past) in absurd (omega arith))
    (lt_or_le (entry s table w) (length s)))
    (λ none. let z : ◌≡◌ {A = ℕ} 0 1 = cc (start_none s table w none) in absurd (omega arith))
    (lt_or_le (w / block) (length table))
