-- Reading what was written gives the same record. Writing what was read gives a record that is read the same, and the same bytes if no field is the
-- bottom rail.
use Rattle.std.specs.Prelude.{◌≡◌, List, ◌++◌, ℕ, ◌+◌, ◌^◌, ◌≤◌, ℤ, length, get_or, take, drop, Result, Ok, Err}
use Rattle.std.proofs.Math.Path.{refl, ap}
use Rattle.std.proofs.Common.{sym, ◌∙◌, arith, length-append, length-drop, take-append-drop, take_at, drop_at, drop-drop, length-take-le, get_or-drop}
use Rattle.decoding.specs.Readings.{Within}
use Rattle.numbers.specs.Laid.{laid_at}
use Rattle.code.specs.Sound.{Sound, largest_record_reading, rm}
use Rattle.code.specs.RefusalLaws.{number_above}
use Rattle.code.specs.declared.Code.{Code}
use Rattle.packing.specs.Layout.{nibbles, NoRail, record_of, packed}
use Rattle.packing.specs.LayoutLaws.{Below, length_record}
use Rattle.record.specs.Reader.{code_of, length_by, part_of, readings_of, header_of, part_by}
use Rattle.record.specs.Accepted.{Begins, begins_accepted, begins_readings, begins_handed_back, begins_said, accepted_begins, readings_within}
use Rattle.record.specs.ReaderLaws.{framed_record, length-readings_of}
use Rattle.record.specs.Writing.{WrittenOutcome, outcome_of, writable, written_by, writing}
use Rattle.record.specs.WritingLaws.{Writable, allowed_writable, writable_allowed}
use Rattle.code.specs.declared.Refusal.{Refusal}

-- ---- bytes written over others
module _ (place : ℕ) (x d : List ℕ) (h : place + length x ≤ length d) where
  first : length (take place d) ≡ place
  first = length-take-le place d (omega arith)

  laid_before : take place (laid_at place x d) ≡ take place d
  laid_before = take_at (take place d) (x ++ drop (place + length x) d) place first

  laid_there : drop place (laid_at place x d) ≡ x ++ drop (place + length x) d
  laid_there = drop_at (take place d) (x ++ drop (place + length x) d) place first

  laid_after : drop (place + length x) (laid_at place x d) ≡ drop (place + length x) d
  laid_after =
      sym (drop-drop (length x) place (laid_at place x d))
      ∙ ap (drop (length x)) laid_there
      ∙ drop_at x (drop (place + length x) d) (length x) refl

  length_laid : length (laid_at place x d) ≡ length d
  length_laid = simp (length-append, first, length-drop) (omega arith)

-- the bytes that were already there
laid_same : (place k : ℕ) (d : List ℕ) → place + k ≤ length d → laid_at place (take k (drop place d)) d ≡ d
laid_same place k d h =
    let long : length (take k (drop place d)) ≡ k = length-take-le k (drop place d) (simp length-drop (omega arith)) in
    let rest : drop (place + k) d ≡ drop k (drop place d) = sym (drop-drop k place d) in
    rw (long, rest, take-append-drop k (drop place d)) (take-append-drop place d)

-- ---- if the writer does not refuse
module _ (r m : ℕ) (l : List ℤ) (d : List ℕ) (place : ℕ) where
  abbrev new : List ℕ
  new = record_of r m l

  -- what it reports and leaves
  abbrev done : WrittenOutcome
  done = outcome_of (Ok (place + length new)) (laid_at place new d)

  -- every code, readings within the largest of a record, and room
  pub record Asked : Type 0 where
    pub sound : Sound (rm r m)
    pub long : length l ≡ 2 ^ m
    pub within : Within largest_record_reading l
    pub room : place + length new ≤ length d

  pub asked_writes : Asked → writing r m l d place ≡ done
  unfolding writing
  asked_writes a =
      ap (λ (x : Result Code Refusal). written_by x l d place)
      (sym (writable_allowed r m l (length d) place (rm r m)
      (record {
        same = refl;
        sound = a.sound;
        long = a.long;
        within = a.within;
        room = omega (arith, length_record r m l a.long, a.room);
      })))

  asked_by : (x : Result Code Refusal) → x ≡ writable r m l (length d) place → (written_by x l d place).carry.number ≡ 0 → Asked
  asked_by (Err why) e z = absurd (omega (arith, number_above why))
  asked_by (Ok c) e z =
      let w = allowed_writable r m l (length d) place c e in
      let same = w.same in
      let f : Writable r m l (length d) place (rm r m) = rw same at w in
      record { sound = f.sound; long = f.long; within = f.within; room = omega (arith, length_record r m l f.long, f.room) }

  pub writes_asked : (writing r m l d place).carry.number ≡ 0 → Asked
  unfolding writing
  writes_asked = asked_by (writable r m l (length d) place) refl

-- ---- reading back what was written
pub record ReadBack (r m : ℕ) (l : List ℤ) (d : List ℕ) (place : ℕ) (o : WrittenOutcome) : Type 0 where
  -- the reader accepts it at its place, with the same r, m and readings, and hands back its packed part
  pub accepted : header_of (drop place o.buffer) ≡ Ok (rm r m)
  pub readings : readings_of (rm r m) (drop place o.buffer) ≡ l
  pub part : part_by (header_of (drop place o.buffer)) (drop place o.buffer) ≡ packed l
  -- the next record starts where its first byte says
  pub next : o.next ≡ place + length_by (code_of (get_or o.buffer place 0))
  -- bytes outside the record stay
  pub before : take place o.buffer ≡ take place d
  pub after : drop o.next o.buffer ≡ drop o.next d
  pub same_length : length o.buffer ≡ length d

module _ (r m : ℕ) (l : List ℤ) (d : List ℕ) (place : ℕ) where
  read_done : Asked r m l d place → ReadBack r m l d place (done r m l d place)
  read_done a =
      let x = record_of r m l in
      let s = drop place (laid_at place x d) in
      let after = drop (place + length x) d in
      let b : Begins s (rm r m) l after = record { sound = a.sound; count = a.long; within = a.within; whole = laid_there place x d a.room } in
      let first : get_or (laid_at place x d) place 0 ≡ get_or s 0 0 =
      sym (get_or-drop place (laid_at place x d) 0 0 ∙ ap (λ (i : ℕ). get_or (laid_at place x d) i 0) (omega arith)) in
      record {
        accepted = begins_accepted s (rm r m) l after b;
        readings = begins_readings s (rm r m) l after b;
        part = begins_handed_back s (rm r m) l after b;
        next = rw (first, begins_said s (rm r m) l after b) (ap (λ (k : ℕ). place + k) (length_record r m l a.long));
        before = laid_before place x d a.room;
        after = laid_after place x d a.room;
        same_length = length_laid place x d a.room;
      }

  pub written_read : (writing r m l d place).carry.number ≡ 0 → ReadBack r m l d place (writing r m l d place)
  written_read z = let a = writes_asked r m l d place z in rw (asked_writes r m l d place a) (read_done a)

-- ---- writing again what was read
-- it gives a record that is read the same
module _ (s : List ℕ) (c : Code) (e : header_of s ≡ Ok c) where
  abbrev k : ℕ
  k = length_by (Ok c)

  abbrev l : List ℤ
  l = readings_of c s

  asks : (d : List ℕ) (place : ℕ) → place + k ≤ length d → Asked c.r c.m l d place
  asks d place h =
      let f = framed_record s c e in
      let count = length-readings_of c s f.whole in
      record { sound = f.sound; long = count; within = readings_within c s; room = omega (arith, length_record c.r c.m l count) }

  pub written_read_same : (d : List ℕ) (place : ℕ) → place + k ≤ length d → ReadBack c.r c.m l d place (writing c.r c.m l d place)
  written_read_same d place h =
      let a = asks d place h in rw (asked_writes c.r c.m l d place a) (read_done c.r c.m l d place a)

  pub accepted_long : k ≤ length s
  accepted_long = (framed_record s c e).whole

  -- and if no field is the bottom rail, the same bytes
  module _ (bytes : Below 256 s) (none : NoRail (nibbles (part_of c s))) where
    abbrev b : Begins s c l (drop k s)
    b = accepted_begins s c bytes e none

    pub same_bytes : record_of c.r c.m l ≡ take k s
    same_bytes =
        sym (take_at (record_of c.r c.m l) (drop k s) k (length_record c.r c.m l b.count)) ∙ ap (take k) (sym b.whole)

    -- so the writer puts those bytes at any place with room
    pub written-again : (d : List ℕ) (place : ℕ) → place + k ≤ length d
        → writing c.r c.m l d place ≡ outcome_of (Ok (place + k)) (laid_at place (take k s) d)
    written-again d place h =
        let same : length (take k s) ≡ k = ap length (sym same_bytes) ∙ length_record c.r c.m l b.count in
        asked_writes c.r c.m l d place (asks d place h)
        ∙ ap (λ (x : List ℕ). outcome_of (Ok (place + length x)) (laid_at place x d)) same_bytes
        ∙ ap (λ (n : ℕ). outcome_of (Ok (place + n)) (laid_at place (take k s) d)) same

-- and at its own place it changes nothing
pub written_in_place : (d : List ℕ) (place : ℕ) (c : Code) → Below 256 d → header_of (drop place d) ≡ Ok c → NoRail (nibbles (part_of c (drop place d)))
    → writing c.r c.m (readings_of c (drop place d)) d place ≡ outcome_of (Ok (place + length_by (Ok c))) d
written_in_place d place c bytes e none =
    let s = drop place d in
    let k = length_by (Ok c) in
    let below : Below 256 s = λ i. rw (get_or-drop place d i 0) (bytes (place + i)) in
    let room : place + k ≤ length d = omega (arith, accepted_long s c e, length-drop place d) in
    written-again s c e below none d place room ∙ ap (outcome_of (Ok (place + k))) (laid_same place k d room)
