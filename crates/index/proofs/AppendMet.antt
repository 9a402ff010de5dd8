-- After an append to a capture with its own index and table, both equal those made from the longer capture.
use Rattle.std.specs.Prelude.{◌≡◌, List, [], ◌∷◌, ◌++◌, Bool, true, false, ℤ, get_or, take, set, Result, Ok, Err}
use Rattle.std.proofs.Math.Path.{refl, ap, subst, sym}
use Rattle.std.proofs.Common.{◌∙◌, arith, length-take, take-append-drop, length-take-le, get_or-take, take-take, eq-eqb, ne_eqb}
use Prim.Native.Nat.{ℕ, zero, suc, ◌+◌, ◌-◌, ◌/◌, ◌%◌, ◌≤◌, ◌<◌}
use Rattle.std.proofs.Math.Decide.{ℕ_discrete}
use Rattle.std.proofs.Math.ListN.{length, drop, length-append, get_or-append}
use Rattle.code.specs.RefusalLaws.{number_above}
use Rattle.code.specs.declared.Code.{Code}
use Rattle.packing.specs.Layout.{part_length}
use Rattle.packing.specs.LayoutLaws.{length_record}
use Rattle.record.specs.Reader.{code_of, length_by}
use Rattle.record.specs.Writing.{WrittenOutcome, writable, writing}
use Rattle.record.specs.WrittenRead.{Asked, asked_writes, writes_asked, ReadBack, written_read}
use Rattle.index.specs.Finding.{block}
use Rattle.index.specs.declared.Index.{Index}
use Rattle.index.specs.Steps.{bytes_at, stepped, Starts, these, and_these, starts_at, starts_of}
use Rattle.index.specs.Making.{every, entries_of, index_of, outcome_of, made_by, making, Room, with_entry, list_of}
use Rattle.index.specs.Appending.{AppendOutcome, full, appended, appending}
use Rattle.index.specs.Own.{Belongs, MadeAfresh}
use Rattle.index.specs.StepsLaws.{Goes}
use Rattle.index.proofs.StepsLaws.{step_next, starts-end, starts-next, starts_begin, starts_none}
use Rattle.index.proofs.MakingLaws.{length_entries, made_whole}
use Rattle.index.specs.AppendingLaws.{Fitting}
use Rattle.index.proofs.AppendingLaws.{free_room, append-refused, append-full, append_fits, append-done}
use Rattle.code.specs.declared.Refusal.{Refusal}

-- ---- bytes after a capture of whole records change none of its steps
module _ (s rest : List ℕ) where
  step_front : (at next : ℕ) → Goes s at next → stepped (s ++ rest) at ≡ Ok next
  step_front at next go =
      let same : bytes_at (s ++ rest) at ≡ bytes_at s at = ap (λ (b : ℕ). length_by (code_of b)) (get_or-append s rest 0 at go.inside) in
      let sum = length-append s rest in
      step_next (s ++ rest) at (omega (arith, go.inside, sum)) (λ z. omega (arith, go.by, go.further, same, z))
      (omega (arith, go.by, go.there, same, sum))
      ∙ ap Ok (omega (arith, go.by, same))

  -- a whole record after it is one more start
  pub starts_more : (l : List ℕ) (at : ℕ) → at ≤ length s → starts_at s at ≡ these l → starts_at (s ++ rest) (length s) ≡ these (length s ∷ [])
      → starts_at (s ++ rest) at ≡ these (l ++ (length s ∷ []))
  starts_more [] at h e last = ap (starts_at (s ++ rest)) (starts_none s at h e) ∙ last
  starts_more (x ∷ l) at h e last =
      let b = starts_begin s at x l h e in
      starts-next (s ++ rest) at b.next (omega (arith, b.goes.inside, length-append s rest)) (step_front at b.next b.goes)
      ∙ ap (and_these at) (starts_more l b.next b.goes.there b.others last)
      ∙ ap (λ (y : ℕ). these (y ∷ (l ++ (length s ∷ [])))) (sym b.first)

-- ---- one more start is one more entry exactly if the number of records is a multiple of 16; k are skipped first
every_hit : (k : ℕ) (l : List ℕ) (u : ℕ) → k < block → (length l + (block - k)) % block ≡ 0 → every k (l ++ (u ∷ [])) ≡ every k l ++ (u ∷ [])
every_hit zero [] u h e = refl
every_hit (suc k) [] u h e = absurd (omega arith)
every_hit zero (x ∷ l) u h e = ap (λ (y : List ℕ). x ∷ y) (every_hit (block - 1) l u (omega arith) (omega arith))
every_hit (suc k) (x ∷ l) u h e = every_hit k l u (omega arith) (omega arith)

every_miss : (k : ℕ) (l : List ℕ) (u : ℕ) → k < block → ((length l + (block - k)) % block ≡ 0 → ⊥) → every k (l ++ (u ∷ [])) ≡ every k l
every_miss zero [] u h e = absurd (e (omega arith))
every_miss (suc k) [] u h e = refl
every_miss zero (x ∷ l) u h e = ap (λ (y : List ℕ). x ∷ y) (every_miss (block - 1) l u (omega arith) (λ z. e (omega arith)))
every_miss (suc k) (x ∷ l) u h e = every_miss k l u (omega arith) (λ z. e (omega arith))

-- an entry after those at the front of the table
set_behind : (e t : List ℕ) (u : ℕ) → take (length e) t ≡ e → length e < length t → (e ++ (u ∷ [])) ++ drop (length e + 1) t ≡ set t (length e) u
set_behind [] [] u f h = absurd (omega arith)
set_behind [] (y ∷ t) u f h = refl
set_behind (x ∷ e) [] u f h = absurd (omega arith)
set_behind (x ∷ e) (y ∷ t) u f h =
    let head : y ≡ x = cc in
    let tail : take (length e) t ≡ e = cc in
    let d : suc (length e) + 1 ≡ suc (length e + 1) = omega arith in
    rw (d, head) (ap (λ (z : List ℕ). x ∷ z) (set_behind e t u tail (omega arith)))

module _ (all : List ℕ) (u : ℕ) (t : List ℕ) (begins : take (length (entries_of all)) t ≡ entries_of all) where
  abbrev own : List ℕ
  own = entries_of all

  abbrev longer : List ℕ
  longer = entries_of (all ++ (u ∷ []))

  fits : length own ≤ length t
  fits = omega (arith, ap length begins, length-take (length own) t)

  pub record Entered : Type 0 where
    pub enough : length longer ≤ length t
    pub same : longer ++ drop (length longer) t ≡ with_entry (length all) u t

  pub one_more : Room (length t) (length all) → Entered
  one_more room =
      let count = length_entries all in
      elim (ℕ_discrete (length all % block) 0) [
        | yes z ↦
            let hit : longer ≡ own ++ (u ∷ []) = every_hit 0 all u (omega arith) (omega arith) in
            let place : length all / block ≡ length own = omega (arith, count) in
            let long : length longer ≡ length own + 1 = ap length hit ∙ length-append own (u ∷ []) in
            let free : length own < length t = omega (arith, room z, place) in
            record {
              enough = omega arith;
              same = rw (long, hit, eq-eqb (length all % block) 0 z, place) (set_behind own t u begins free);
            }
        | no n ↦
            let miss : longer ≡ own = every_miss 0 all u (omega arith) (λ z. n (omega arith)) in
            record {
              enough = omega (arith, ap length miss, fits);
              same = rw (miss, ne_eqb (length all % block) 0 n) (ap (λ (x : List ℕ). x ++ drop (length own) t) (sym begins) ∙ take-append-drop (length own) t);
            }
      ]

-- ---- what an append that is not refused shows
module _ (index : Index) (r m : ℕ) (l : List ℤ) (d t : List ℕ) where
  abbrev wrote : WrittenOutcome
  wrote = writing r m l d index.used

  record Succeeds : Type 0 where
    fitting : Fitting index r m l d (length t)
    is : appending index r m l d t ≡ appended index r m l d t

  by_room : (c : Code) → Ok c ≡ writable r m l (length d) index.used → (z : Bool) → full index (length t) ≡ z
      → (appending index r m l d t).carry.number ≡ 0 → Succeeds
  by_room c e true f g = absurd (omega (arith, ap (λ (o : AppendOutcome). o.carry.number) (append-full index r m l d t c e f), g))
  by_room c e false f g = record { fitting = append_fits index r m l d t c e f; is = sym (append-done index r m l d t c e f) }

  by_tests : (a : Result Code Refusal) → a ≡ writable r m l (length d) index.used → (appending index r m l d t).carry.number ≡ 0 → Succeeds
  by_tests (Err why) e g =
      absurd (omega (arith, number_above why, ap (λ (o : AppendOutcome). o.carry.number) (append-refused index r m l d t why e), g))
  by_tests (Ok c) e g = by_room c e (full index (length t)) refl g

  succeeds : (appending index r m l d t).carry.number ≡ 0 → Succeeds
  succeeds g = by_tests (writable r m l (length d) index.used) refl g

  module _ (b : Belongs index d t) (ok : (writing r m l d index.used).carry.number ≡ 0) where
    abbrev old : List ℕ
    old = take index.used d

    abbrev new : List ℕ
    new = take wrote.next wrote.buffer

    back : ReadBack r m l d index.used wrote
    back = written_read r m l d index.used ok

    asked : Asked r m l d index.used
    asked = writes_asked r m l d index.used ok

    next-is : wrote.next ≡ index.used + suc (part_length m)
    next-is =
        ap (λ (o : WrittenOutcome). o.next) (asked_writes r m l d index.used asked)
        ∙ ap (λ (k : ℕ). index.used + k) (length_record r m l asked.long)

    next_inside : wrote.next ≤ length wrote.buffer
    next_inside = omega (arith, next-is, back.same_length, asked.room, length_record r m l asked.long)

    length-old : length old ≡ index.used
    length-old = length-take-le index.used d b.inside

    length-new : length new ≡ wrote.next
    length-new = length-take-le wrote.next wrote.buffer next_inside

    -- the longer capture is the old one and a record
    front-new : take index.used new ≡ old
    front-new = take-take index.used wrote.next wrote.buffer (omega (arith, next-is)) ∙ back.before

    new_is : old ++ drop index.used new ≡ new
    new_is = ap (λ (x : List ℕ). x ++ drop index.used new) (sym front-new) ∙ take-append-drop index.used new

    bytes-new : bytes_at new index.used ≡ suc (part_length m)
    bytes-new =
        let same : get_or new index.used 0 ≡ get_or wrote.buffer index.used 0 =
        get_or-take wrote.next wrote.buffer index.used 0 (omega (arith, next-is)) in
        ap (λ (x : ℕ). length_by (code_of x)) same ∙ omega (arith, back.next, next-is)

    last-start : starts_at new (length old) ≡ these (length old ∷ [])
    last-start =
        rw length-old
        (starts-next new index.used (index.used + bytes_at new index.used) (omega (arith, length-new, next-is))
        (step_next new index.used (omega (arith, length-new, next-is)) (λ z. omega (arith, bytes-new, z)) (omega (arith, bytes-new, length-new, next-is)))
        ∙ ap (and_these index.used) (starts-end new _ (omega (arith, bytes-new, length-new, next-is))))

    abbrev all : List ℕ
    all = list_of (starts_of old)

    starts-new : starts_of new ≡ these (all ++ (index.used ∷ []))
    starts-new =
        let last : starts_at (old ++ drop index.used new) (length old) ≡ these (length old ∷ []) = rw new_is last-start in
        ap starts_of (sym new_is)
        ∙ starts_more old (drop index.used new) all 0 (omega arith) b.whole last
        ∙ ap (λ (u : ℕ). these (all ++ (u ∷ []))) length-old

    made_afresh : full index (length t) ≡ false
        → making new t ≡ outcome_of (Ok (index_of (suc index.records) wrote.next)) (with_entry index.records index.used t)
    unfolding making
    made_afresh free =
        let longer = all ++ (index.used ∷ []) in
        let made = entries_of longer in
        let room : Room (length t) (length all) = subst (λ (n : ℕ). Room (length t) n) b.count (free_room index (length t) free) in
        let e = one_more all index.used t b.entries room in
        let count : length longer ≡ suc index.records = omega (arith, length-append all (index.used ∷ []), b.count) in
        ap (λ (x : Starts). made_by x new t) starts-new
        ∙ sym (made_whole new t (these longer) refl e.enough)
        ∙ ap (λ (n : ℕ). outcome_of (Ok (index_of n (length new))) (made ++ drop (length made) t)) count
        ∙ ap (λ (n : ℕ). outcome_of (Ok (index_of (suc index.records) n)) (made ++ drop (length made) t)) length-new
        ∙ ap (outcome_of (Ok (index_of (suc index.records) wrote.next))) (e.same ∙ ap (λ (n : ℕ). with_entry n index.used t) (sym b.count))

pub append_afresh : (index : Index) (r m : ℕ) (l : List ℤ) (d t : List ℕ) → Belongs index d t → (appending index r m l d t).carry.number ≡ 0
    → MadeAfresh (appending index r m l d t) t
append_afresh index r m l d t b z =
    let s = succeeds index r m l d t z in
    rw s.is (made_afresh index r m l d t b s.fitting.writes s.fitting.room)
