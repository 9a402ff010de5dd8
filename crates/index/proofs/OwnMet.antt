-- With a capture's own table a record is found as by stepping from the beginning; with any table a part of the capture is handed back.
use Rattle.std.specs.Prelude.{◌≡◌, refl, List, [], ◌∷◌, ◌++◌, ℕ, zero, suc, ◌+◌, ◌-◌, ◌*◌, ◌/◌, ◌%◌, ◌≤◌, ◌<◌, length, get_or, take, drop, Result, Ok, Err}
use Rattle.std.proofs.Common.{ap, sym, ◌∙◌, append_assoc, ⊎_elim, arith, take-append-drop, eq-eqb}
use Rattle.std.proofs.Math.Decide.{ℕ_discrete}
use Rattle.numbers.specs.Choice.{lt_or_le}
use Rattle.code.specs.declared.Refusal.TheVariants.{Torn, NoEntry}
use Rattle.packing.specs.Layout.{part_length}
use Rattle.record.specs.Reader.{header_of, part_by}
use Rattle.index.specs.Steps.{stepped, onward, passed, these, starts_at, starts_of}
use Rattle.index.specs.Finding.{as_start, start_in, from_beginning, header_at, part_at, part_in, block}
use Rattle.index.specs.Making.{entries_of, list_of}
use Rattle.index.proofs.StepsLaws.{step_past, passed_on_lem, passed-refused, passed_none, starts_begin, starts_none}
use Rattle.index.proofs.FindingLaws.{start_none, start_by}
use Rattle.index.proofs.MakingLaws.{length_entries, entry_at}
use Rattle.index.specs.Own.{Own, FoundAlike, PartOf}
use Rattle.code.specs.declared.Code.{Code}
use Rattle.code.specs.declared.Refusal.{Refusal}

-- ---- stepping over i records and then over j
onward-twice : (p : Result ℕ Refusal) (f g : ℕ → Result ℕ Refusal) → onward p (λ next. onward (f next) g) ≡ onward (onward p f) g
onward-twice (Err why) f g = refl
onward-twice (Ok next) f g = refl

onward_same : (p : Result ℕ Refusal) (f g : ℕ → Result ℕ Refusal) → ((next : ℕ) → f next ≡ g next) → onward p f ≡ onward p g
onward_same (Err why) f g e = refl
onward_same (Ok next) f g e = e next

passed-sum : (s : List ℕ) (i j at : ℕ) → passed s (i + j) at ≡ onward (passed s i at) (λ next. passed s j next)
unfolding passed
passed-sum s zero j at = let e : 0 + j ≡ j = omega arith in rw e
passed-sum s (suc i) j at =
    let e : suc i + j ≡ suc (i + j) = omega arith in
    rw e
    (onward_same (stepped s at) (λ next. passed s (i + j) next) (λ next. onward (passed s i next) (λ next. passed s j next)) (λ next. passed-sum s i j next)
    ∙ onward-twice (stepped s at) (λ next. passed s i next) (λ next. passed s j next))

-- ---- the starts are where stepping leads
module _ (s : List ℕ) where
  pub passed-starts : (l : List ℕ) (at i : ℕ) → at ≤ length s → starts_at s at ≡ these l → i < length l → passed s i at ≡ Ok (get_or l i 0)
  passed-starts [] at i h e k = absurd (omega arith)
  passed-starts (x ∷ l) at zero h e k = passed_none s 0 at refl ∙ ap Ok (sym (starts_begin s at x l h e).first)
  passed-starts (x ∷ l) at (suc i) h e k =
      let b = starts_begin s at x l h e in
      let d : suc i - 1 ≡ i = omega arith in
      passed_on_lem s (suc i) at b.next (omega arith) b.step ∙ rw d (passed-starts l b.next i b.goes.there b.others (omega arith))

  pub starts_inside : (l : List ℕ) (at i : ℕ) → at ≤ length s → starts_at s at ≡ these l → i < length l → get_or l i 0 < length s
  starts_inside [] at i h e k = absurd (omega arith)
  starts_inside (x ∷ l) at zero h e k = let b = starts_begin s at x l h e in omega (arith, b.first, b.goes.inside)
  starts_inside (x ∷ l) at (suc i) h e k =
      let b = starts_begin s at x l h e in starts_inside l b.next i b.goes.there b.others (omega arith)

  -- after all of them it is the end, and beyond it there is nothing
  pub passed-all : (l : List ℕ) (at : ℕ) → at ≤ length s → starts_at s at ≡ these l → passed s (length l) at ≡ Ok (length s)
  passed-all [] at h e = passed_none s 0 at refl ∙ ap Ok (starts_none s at h e)
  passed-all (x ∷ l) at h e =
      let b = starts_begin s at x l h e in
      let d : suc (length l) - 1 ≡ length l = omega arith in
      passed_on_lem s (suc (length l)) at b.next (omega arith) b.step ∙ rw d (passed-all l b.next b.goes.there b.others)

  pub passed_past : (l : List ℕ) (at i : ℕ) → at ≤ length s → starts_at s at ≡ these l → length l < i → passed s i at ≡ Err Torn
  passed_past [] at i h e k = passed-refused s i at Torn (omega arith) (step_past s at (omega (arith, starts_none s at h e)))
  passed_past (x ∷ l) at i h e k =
      let b = starts_begin s at x l h e in
      passed_on_lem s i at b.next (omega arith) b.step ∙ passed_past l b.next (i - 1) b.goes.there b.others (omega arith)

-- ---- with the capture's own table
module _ (s table : List ℕ) (o : Own s table) (w : ℕ) where
  abbrev all : List ℕ
  all = list_of (starts_of s)

  long : length table ≡ length (entries_of all)
  long = ap length o.own

  module _ (there : w / block < length table) where
    abbrev entry : ℕ
    entry = get_or table (w / block) 0

    first : block * (w / block) < length all
    first = omega (arith, long, length_entries all)

    entry-is : entry ≡ get_or all (block * (w / block)) 0
    entry-is = ap (λ (t : List ℕ). get_or t (w / block) 0) o.own ∙ entry_at all (w / block)

    pub own-start : start_in s table w ≡ from_beginning s w
    own-start =
        let is : w ≡ block * (w / block) + w % block = omega arith in
        let led : passed s (block * (w / block)) 0 ≡ Ok entry =
        passed-starts s all 0 (block * (w / block)) (omega arith) o.whole first ∙ ap Ok (sym entry-is) in
        let same : passed s w 0 ≡ passed s (w % block) entry =
        ap (λ (i : ℕ). passed s i 0) is
        ∙ passed-sum s (block * (w / block)) (w % block) 0
        ∙ ap (λ (p : Result ℕ Refusal). onward p (λ next. passed s (w % block) next)) led in
        start_by s table w there (omega (arith, entry-is, starts_inside s all 0 (block * (w / block)) (omega arith) o.whole first))
        ∙ ap (as_start s) (sym same)

  first_past : w ≡ length all → from_beginning s w ≡ Err NoEntry
  first_past e =
      ap (as_start s) (ap (λ (i : ℕ). passed s i 0) e ∙ passed-all s all 0 (omega arith) o.whole) ∙ rw (eq-eqb (length s) (length s) refl)

  later_past : length all < w → from_beginning s w ≡ Err Torn
  later_past h = ap (as_start s) (passed_past s all 0 w (omega arith) o.whole h)

  -- past the table both find nothing
  nothing : length table ≤ w / block → part_at s (from_beginning s w) ≡ []
  nothing h =
      elim (ℕ_discrete w (length all)) [
        | yes e ↦ ap (part_at s) (first_past e)
        | no n ↦ ap (part_at s) (later_past (omega (arith, long, length_entries all, n)))
      ]

  pub own-found : FoundAlike s table w
  own-found =
      record {
        part = ⊎_elim
            (λ there. ap (part_at s) (own-start there))
            (λ none. ap (part_at s) (sym (start_none s table w none)) ∙ sym (nothing none))
            (lt_or_le (w / block) (length table));
        header = λ there. ap (header_at s) (own-start there);
        past = λ none. sym (start_none s table w none);
        first_past = first_past;
        later_past = later_past;
      }

-- ---- with any table
header_part : (h : Result Code Refusal) (s : List ℕ) → PartOf s (part_by h s)
header_part (Err why) s = record { before = []; after = s; whole = refl }
header_part (Ok c) s =
    record {
      before = take 1 s;
      after = drop (part_length c.m) (drop 1 s);
      whole = sym (ap (λ (t : List ℕ). take 1 s ++ t) (take-append-drop (part_length c.m) (drop 1 s)) ∙ take-append-drop 1 s);
    }

place_part : (s : List ℕ) (p : Result ℕ Refusal) → PartOf s (part_at s p)
place_part s (Err why) = record { before = []; after = s; whole = refl }
place_part s (Ok start) =
    let part = header_part (header_of (drop start s)) (drop start s) in
    record {
      before = take start s ++ part.before;
      after = part.after;
      whole = sym (take-append-drop start s) ∙ ap (λ (t : List ℕ). take start s ++ t) part.whole
          ∙ sym (append_assoc (take start s) part.before (part_at s (Ok start) ++ part.after));
    }

pub any_part : (s table : List ℕ) (w : ℕ) → PartOf s (part_in s table w)
any_part s table w = place_part s (start_in s table w)
