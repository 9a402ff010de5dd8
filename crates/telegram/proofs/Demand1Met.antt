-- The telegram's writer, its reader and the reader of information bits meet demand 1: one of the cases holds, and each case has its outcome.
use Rattle.std.specs.Prelude.{◌≡◌, refl, ◌⊎◌, List, [], cond, not, ℕ, ◌≤◌, ◌<◌, ℤ, length, replicate, ltb, eqb, Result, Ok, Err}
use Rattle.std.proofs.Common.{ap, sym, ◌∙◌, inl, inr, ⊎_elim, arith, eq-eqb, ne_eqb, lt-ltb, le-ltb}
use Rattle.std.proofs.Math.Decide.{ℕ_discrete}
use Rattle.numbers.specs.Choice.{lt_or_le}
use Rattle.code.specs.declared.Refusal.{Refusal}
use Rattle.code.specs.declared.Refusal.TheVariants.{InputLength, OutputLength, Entry}
use Rattle.code.specs.Sound.{carrying, number_of}
use Rattle.code.specs.Entries.{first_bad_bit}
use Rattle.code.specs.EntriesLaws.{good_bits}
use Rattle.code.specs.RefusalLaws.{number_above}
use Rattle.code.specs.Demand1.{View, refused_as, Checks, passed, check, check_at, First, NoneApplies, Demand1}
use Rattle.code.specs.Demand1Laws.{Decides, demand_1, decides_entry}
use Rattle.search.specs.Outcome as Search
use Rattle.search.specs.Demands.{view, SearchDemand1}
use Rattle.search.proofs.Demand1Met.{search_demand_1}
use Rattle.telegram.specs.declared.Telegram.{Telegram}
use Rattle.guarded.specs.declared.Fault.TheVariants.{Link, Marker, Tilt, ZeroTilt, Field}
use Rattle.telegram.specs.Telegram.{telegram_of, marker_of, word_of}
use Rattle.telegram.specs.Faults.{largest_cylinder, largest_direction, largest_tilt, TiltGood, Writable, writer_fault, reader_fault}
use Rattle.telegram.proofs.FaultLaws.{tilt_high, tilt_level, tilt_good, field_beyond, writer_good, read-writable}
use Rattle.guarded.specs.FaultLaws.{number-below}
use Rattle.guarded.specs.Written.{WriteOutcome, done, refused}
use Rattle.telegram.specs.Outcome.{written_if, writing_telegram}
use Rattle.telegram.specs.Outcome.{ReadOutcome, no_telegram, showing, faulted, shown_if, judged, link_search, reading_telegram, reading_bits}
use Rattle.telegram.proofs.OutcomeLaws.{writing_short, writing-tested, reading-found, reading_other, found_all, found_bits}
use Rattle.telegram.proofs.OutcomeLaws.{bits_short, bits_entry, bits_judged}
use Rattle.telegram.specs.Demand1.{TooTilted, LevelToPort, BeyondField, TelegramWriteDemand1, ReaderMeets, link_checks, TelegramReadDemand1}
use Rattle.telegram.specs.Demand1.{bits_checks, TelegramBitsDemand1}
use Rattle.guarded.specs.declared.Fault.{Fault}

-- ---- the tilt
data TiltCase (t : Telegram) : Type 0 where
  high : TooTilted t → TiltCase t
  level : LevelToPort t → TiltCase t
  fine : TiltGood t → TiltCase t

tilt_case : (t : Telegram) → TiltCase t
tilt_case t =
    ⊎_elim (λ h. high h)
    (λ h. elim (ℕ_discrete t.tilt 0) [
      | no z ↦ fine (record { small = h; zero_level = λ y d. z y })
      | yes z ↦ elim (ℕ_discrete t.direction 1) [
        | no d ↦ fine (record { small = h; zero_level = λ y e. d e })
        | yes d ↦ level (z, d)
      ]
    ])
    (lt_or_le largest_tilt t.tilt)

-- ---- the writer
data WriterCase (t : Telegram) (word : List ℕ) : Type 0 where
  short : (length word ≡ 32 → ⊥) → WriterCase t word
  tilted : length word ≡ 32 → TooTilted t → WriterCase t word
  levelled : length word ≡ 32 → LevelToPort t → WriterCase t word
  beyond : length word ≡ 32 → TiltGood t → BeyondField t → WriterCase t word
  good : length word ≡ 32 → Writable t → WriterCase t word

module _ (t : Telegram) (word : List ℕ) where
  fields_case : length word ≡ 32 → TiltGood t → WriterCase t word
  fields_case e g =
      ⊎_elim (λ c. beyond e g (inl c)) (λ c.
      ⊎_elim (λ d. beyond e g (inr d)) (λ d.
      good e (read-writable (record { cylinder_fits = omega arith; direction_fits = omega arith; tilt_fits = omega (arith, g.small) }) g))
      (lt_or_le largest_direction t.direction))
      (lt_or_le largest_cylinder t.cylinder)

  writer_case : WriterCase t word
  writer_case =
      elim (ℕ_discrete (length word) 32) [
        | no e ↦ short e
        | yes e ↦ elim (tilt_case t) [
          | high h ↦ tilted e h
          | level h ↦ levelled e h
          | fine g ↦ fields_case e g
        ]
      ]

  abbrev written : WriteOutcome
  written = writing_telegram t.cylinder t.direction t.tilt word

  abbrev written_by : WriterCase t word → WriteOutcome
  written_by (short e) = refused (Link OutputLength) word
  written_by (tilted e h) = refused Tilt word
  written_by (levelled e h) = refused ZeroTilt word
  written_by (beyond e g h) = refused Field word
  written_by (good e w) = done (word_of t)

  tested : (x : Result (Unit {0}) Fault) → length word ≡ 32 → writer_fault t ≡ x → written ≡ written_if x t word
  tested x e f = writing-tested t.cylinder t.direction t.tilt word e ∙ ap (λ (x : Result (Unit {0}) Fault). written_if x t word) f

  written_is : (c : WriterCase t word) → written ≡ written_by c
  written_is (short e) = writing_short t.cylinder t.direction t.tilt word e
  written_is (tilted e h) = tested (Err Tilt) e (rw (tilt_high t h))
  written_is (levelled e h) = tested (Err ZeroTilt) e (rw (tilt_level t h.0 h.1))
  written_is (beyond e g h) = tested (Err Field) e (rw (tilt_good t g, field_beyond t h))
  written_is (good e w) = tested (Ok tt) e (writer_good t w)

  -- what each number says about the case
  three : (c : WriterCase t word) → (written_by c).carry.number ≡ 3 → length word ≡ 32 → ⊥
  three (short e) n = e
  three (tilted e h) n = absurd (omega arith)
  three (levelled e h) n = absurd (omega arith)
  three (beyond e g h) n = absurd (omega arith)
  three (good e w) n = absurd (omega arith)

  fourteen : (c : WriterCase t word) → (written_by c).carry.number ≡ 14 → (length word ≡ 32) × TooTilted t
  fourteen (short e) n = absurd (omega arith)
  fourteen (tilted e h) n = (e, h)
  fourteen (levelled e h) n = absurd (omega arith)
  fourteen (beyond e g h) n = absurd (omega arith)
  fourteen (good e w) n = absurd (omega arith)

  fifteen : (c : WriterCase t word) → (written_by c).carry.number ≡ 15 → (length word ≡ 32) × LevelToPort t
  fifteen (short e) n = absurd (omega arith)
  fifteen (tilted e h) n = absurd (omega arith)
  fifteen (levelled e h) n = (e, h)
  fifteen (beyond e g h) n = absurd (omega arith)
  fifteen (good e w) n = absurd (omega arith)

  sixteen : (c : WriterCase t word) → (written_by c).carry.number ≡ 16 → (length word ≡ 32) × TiltGood t × BeyondField t
  sixteen (short e) n = absurd (omega arith)
  sixteen (tilted e h) n = absurd (omega arith)
  sixteen (levelled e h) n = absurd (omega arith)
  sixteen (beyond e g h) n = (e, g, h)
  sixteen (good e w) n = absurd (omega arith)

  none : (c : WriterCase t word) → (written_by c).carry.number ≡ 0 → (length word ≡ 32) × Writable t
  none (short e) n = absurd (omega arith)
  none (tilted e h) n = absurd (omega arith)
  none (levelled e h) n = absurd (omega arith)
  none (beyond e g h) n = absurd (omega arith)
  none (good e w) n = (e, w)

  abbrev alone : WriteOutcome → WriteOutcome
  alone o = record { carry = carrying o.carry.number 0 0 0; word = word }

  carries_alone : (c : WriterCase t word) → 0 < (written_by c).carry.number → written_by c ≡ alone (written_by c)
  carries_alone (short e) h = refl
  carries_alone (tilted e k) h = refl
  carries_alone (levelled e k) h = refl
  carries_alone (beyond e g k) h = refl
  carries_alone (good e w) h = absurd (omega arith)

  no_place : (c : WriterCase t word) → (written_by c).carry.place ≡ 0
  no_place (short e) = refl
  no_place (tilted e h) = refl
  no_place (levelled e h) = refl
  no_place (beyond e g h) = refl
  no_place (good e w) = refl

  number_is : (c : WriterCase t word) → written.carry.number ≡ (written_by c).carry.number
  number_is c = ap (λ (o : WriteOutcome). o.carry.number) (written_is c)

  pub telegram_write_demand_1 : TelegramWriteDemand1 t word
  telegram_write_demand_1 =
      let c = writer_case in
      let is = written_is c in
      let same = sym (number_is c) in
      record {
        three = (λ n. three c (same ∙ n), λ e. number_is (short e));
        fourteen = (λ n. fourteen c (same ∙ n), λ x. number_is (tilted x.0 x.1));
        fifteen = (λ n. fifteen c (same ∙ n), λ x. number_is (levelled x.0 x.1));
        sixteen = (λ n. sixteen c (same ∙ n), λ x. number_is (beyond x.0 x.1 x.2));
        done = (λ n. none c (same ∙ n), λ x. number_is (good x.0 x.1));
        refused = λ h. is ∙ carries_alone c (omega (arith, same)) ∙ ap alone (sym is);
        no_place = λ n. ap (λ (o : WriteOutcome). o.carry.place) is ∙ no_place c;
      }

-- ---- the reader
data ReaderCase (checks : Checks) (b : List ℕ) : Type 0 where
  linked : (why : Refusal) → First (λ given. given ≡ why) checks → ReaderCase checks b
  marked : NoneApplies checks → marker_of b ≡ 1 → ReaderCase checks b
  inclined : NoneApplies checks → marker_of b ≡ 0 → TooTilted (telegram_of b) → ReaderCase checks b
  upright : NoneApplies checks → marker_of b ≡ 0 → LevelToPort (telegram_of b) → ReaderCase checks b
  clear : NoneApplies checks → marker_of b ≡ 0 → TiltGood (telegram_of b) → ReaderCase checks b

-- the refusal that the first check gives
first_why : (such : Refusal → Type 0) (checks : Checks) → First such checks → (why : Refusal) × such why × First (λ given. given ≡ why) checks
first_why such passed f = absurd f
first_why such (check why applies rest) f =
    ⊎_elim
    (λ x. (why, x.0, inl (refl, x.1)))
    (λ x. let y = first_why such rest x.1 in (y.0, y.1, inr (x.0, y.2)))
    f
first_why such (check_at why applies rest) f =
    ⊎_elim
    (λ x. (why x.0, x.1, inl (x.0, refl, x.2)))
    (λ x. let y = first_why such rest x.1 in (y.0, y.1, inr (x.0, y.2)))
    f

-- what a reader reports, by what the checks before its tests report (v): nothing is refused, and its tests are made on the bits, with these numbers; or
-- that refusal
record Reports (v : View) (b : List ℕ) (penalty gap visits : ℕ) (o : ReadOutcome) : Type 0 where
  bit : v.number ≡ 0 → marker_of b < 2
  found : v.number ≡ 0 → o ≡ judged b penalty gap visits
  other : (v.number ≡ 0 → ⊥) → o ≡ record { carry = carrying v.number v.place v.penalty v.visits; gap = v.gap; telegram = no_telegram }

module _ (checks : Checks) (before : List (List ℕ)) (v : View) (checked : Demand1 checks before v) (b : List ℕ) (p g w : ℕ) (o : ReadOutcome)
    (reports : Reports v b p g w o) where
  abbrev Case : Type 0
  Case = ReaderCase checks b

  found_case : v.number ≡ 0 → Case
  found_case n =
      let none = checked.done.0 n in
      elim (ℕ_discrete (marker_of b) 0) [
        | no m ↦ marked none (omega (arith, m, reports.bit n))
        | yes m ↦ elim (tilt_case (telegram_of b)) [
          | high h ↦ inclined none m h
          | level h ↦ upright none m h
          | fine g ↦ clear none m g
        ]
      ]

  reader_case : Case
  reader_case =
      elim (ℕ_discrete v.number 0) [
        | yes n ↦ found_case n
        | no n ↦
            let first = first_why (λ why. number_of why ≡ v.number) checks ((checked.number v.number (omega (arith, n))).0 refl) in
            linked first.0 first.2
      ]

  abbrev read_by : Case → ReadOutcome
  read_by (linked why f) = faulted (Link why)
  read_by (marked none m) = faulted Marker
  read_by (inclined none m h) = faulted Tilt
  read_by (upright none m h) = faulted ZeroTilt
  read_by (clear none m h) = showing (telegram_of b) p g w

  link_number : (why : Refusal) → First (λ given. given ≡ why) checks → v.number ≡ number_of why
  link_number why f = ap (λ (v : View). v.number) (checked.refused why f)

  judged_as : (x : Result (Unit {0}) Fault) → NoneApplies checks → reader_fault (marker_of b) (telegram_of b) ≡ x → o ≡ shown_if x (telegram_of b) p g w
  judged_as x none e = reports.found (checked.done.1 none) ∙ ap (λ (x : Result (Unit {0}) Fault). shown_if x (telegram_of b) p g w) e

  read_is : (c : Case) → o ≡ read_by c
  read_is (linked why f) =
      reports.other (λ z. omega (arith, z, link_number why f, number_above why))
      ∙ ap (λ (v : View). record { carry = carrying v.number v.place v.penalty v.visits; gap = v.gap; telegram = no_telegram })
      (checked.refused why f)
  read_is (marked none m) = judged_as (Err Marker) none (rw m)
  read_is (inclined none m h) = judged_as (Err Tilt) none (rw (m, tilt_high (telegram_of b) h))
  read_is (upright none m h) = judged_as (Err ZeroTilt) none (rw (m, tilt_level (telegram_of b) h.0 h.1))
  read_is (clear none m g) = judged_as (Ok tt) none (rw (m, tilt_good (telegram_of b) g))

  -- what each number says about the case
  below_thirteen : (c : Case) (n : ℕ) → 0 < n → n < 13 → (read_by c).carry.number ≡ n → First (λ why. number_of why ≡ n) checks
  below_thirteen (linked why f) n some few e = (checked.number n some).0 (link_number why f ∙ e)
  below_thirteen (marked none m) n some few e = absurd (omega arith)
  below_thirteen (inclined none m h) n some few e = absurd (omega arith)
  below_thirteen (upright none m h) n some few e = absurd (omega arith)
  below_thirteen (clear none m g) n some few e = absurd (omega arith)

  is_marked : (c : Case) → (read_by c).carry.number ≡ 13 → NoneApplies checks × (marker_of b ≡ 1)
  is_marked (linked why f) n = absurd (omega (arith, number-below why))
  is_marked (marked none m) n = (none, m)
  is_marked (inclined none m h) n = absurd (omega arith)
  is_marked (upright none m h) n = absurd (omega arith)
  is_marked (clear none m g) n = absurd (omega arith)

  is_inclined : (c : Case) → (read_by c).carry.number ≡ 14 → NoneApplies checks × (marker_of b ≡ 0) × TooTilted (telegram_of b)
  is_inclined (linked why f) n = absurd (omega (arith, number-below why))
  is_inclined (marked none m) n = absurd (omega arith)
  is_inclined (inclined none m h) n = (none, m, h)
  is_inclined (upright none m h) n = absurd (omega arith)
  is_inclined (clear none m g) n = absurd (omega arith)

  is-upright : (c : Case) → (read_by c).carry.number ≡ 15 → NoneApplies checks × (marker_of b ≡ 0) × LevelToPort (telegram_of b)
  is-upright (linked why f) n = absurd (omega (arith, number-below why))
  is-upright (marked none m) n = absurd (omega arith)
  is-upright (inclined none m h) n = absurd (omega arith)
  is-upright (upright none m h) n = (none, m, h)
  is-upright (clear none m g) n = absurd (omega arith)

  is_clear : (c : Case) → (read_by c).carry.number ≡ 0 → (NoneApplies checks × (marker_of b ≡ 0) × TiltGood (telegram_of b)) × ((read_by c).carry.place ≡ 0)
  is_clear (linked why f) n = absurd (omega (arith, number_above why))
  is_clear (marked none m) n = absurd (omega arith)
  is_clear (inclined none m h) n = absurd (omega arith)
  is_clear (upright none m h) n = absurd (omega arith)
  is_clear (clear none m h) n = ((none, m, h), refl)

  own_alone : (c : Case) → 13 ≤ (read_by c).carry.number → (read_by c).carry ≡ carrying (read_by c).carry.number 0 0 0
  own_alone (linked why f) h = absurd (omega (arith, number-below why))
  own_alone (marked none m) h = refl
  own_alone (inclined none m k) h = refl
  own_alone (upright none m k) h = refl
  own_alone (clear none m g) h = absurd (omega arith)

  nothing-shown : (c : Case) → 0 < (read_by c).carry.number → ((read_by c).telegram ≡ no_telegram) × ((read_by c).gap ≡ 0)
  nothing-shown (linked why f) h = (refl, refl)
  nothing-shown (marked none m) h = (refl, refl)
  nothing-shown (inclined none m k) h = (refl, refl)
  nothing-shown (upright none m k) h = (refl, refl)
  nothing-shown (clear none m g) h = absurd (omega arith)

  number_read : (c : Case) → o.carry.number ≡ (read_by c).carry.number
  number_read c = ap (λ (o : ReadOutcome). o.carry.number) (read_is c)

  -- nothing is refused before, and the marker is not set
  not_marked : NoneApplies checks → marker_of b ≡ 0 → let n = o.carry.number in (n ≡ 0) ⊎ (n ≡ 14) ⊎ (n ≡ 15)
  not_marked none m =
      elim (tilt_case (telegram_of b)) [
        | fine g ↦ inl (number_read (clear none m g))
        | high h ↦ inr (inl (number_read (inclined none m h)))
        | level h ↦ inr (inr (number_read (upright none m h)))
      ]

  -- the number that the first check gives
  link_given : (n : ℕ) → First (λ why. number_of why ≡ n) checks → o.carry.number ≡ n
  link_given n f = let first = first_why (λ why. number_of why ≡ n) checks f in number_read (linked first.0 first.2) ∙ first.1

  meets : ReaderMeets checks b o
  meets =
      let c = reader_case in
      let is = read_is c in
      let same = sym (number_read c) in
      record {
        link = λ n some few. (λ e. below_thirteen c n some few (same ∙ e), link_given n);
        link_refused = λ why f. read_is (linked why f);
        thirteen = (λ n. is_marked c (same ∙ n), λ x. number_read (marked x.0 x.1));
        fourteen = (λ n. is_inclined c (same ∙ n), λ x. number_read (inclined x.0 x.1 x.2));
        fifteen = (λ n. is-upright c (same ∙ n), λ x. number_read (upright x.0 x.1 x.2));
        shown = (λ n. (is_clear c (same ∙ n)).0, λ x. number_read (clear x.0 x.1 x.2));
        own = λ h.
            ap (λ (o : ReadOutcome). o.carry) is ∙ own_alone c (omega (arith, same)) ∙ ap (λ (n : ℕ). carrying n 0 0 0) same;
        refused = λ h.
            let none = nothing-shown c (omega (arith, same)) in
            (ap (λ (o : ReadOutcome). o.telegram) is ∙ none.0, ap (λ (o : ReadOutcome). o.gap) is ∙ none.1);
        no_place = λ n. ap (λ (o : ReadOutcome). o.carry.place) is ∙ (is_clear c (same ∙ n)).1;
      }

-- ---- for readings, by the search
module _ (allowed : ℕ) (l : List ℤ) where
  abbrev search_report : Search.Outcome
  search_report = link_search allowed l

  searched : SearchDemand1 2 5 allowed l (replicate 16 0) (replicate 32 0)
  searched = search_demand_1 2 5 allowed l (replicate 16 0) (replicate 32 0)

  after_search : Reports (view search_report) search_report.bits search_report.penalty search_report.gap search_report.visits (reading_telegram allowed l)
  after_search =
      record { bit = λ n. found_bits allowed l (found_all allowed l n) 15; found = reading-found allowed l; other = reading_other allowed l }

  pub telegram_read_demand_1 : TelegramReadDemand1 allowed l
  telegram_read_demand_1 = meets (link_checks allowed l) _ _ searched _ _ _ _ _ after_search

  pub unmarked : NoneApplies (link_checks allowed l) → marker_of search_report.bits ≡ 0
      → let n = (reading_telegram allowed l).carry.number in (n ≡ 0) ⊎ (n ≡ 14) ⊎ (n ≡ 15)
  unmarked = not_marked (link_checks allowed l) _ _ searched _ _ _ _ _ after_search

-- ---- for information bits
module _ (b : List ℕ) where
  -- what the two checks show
  abbrev bits_report : View
  bits_report =
      cond (not (eqb (length b) 16)) (refused_as InputLength [])
      (cond (ltb (first_bad_bit b) (length b)) (refused_as (Entry (first_bad_bit b)) [])
      (record { number = 0; place = 0; penalty = 0; gap = 0; visits = 0; buffers = [] }))

  bits_decide : Decides [] bits_report (bits_checks b)
  bits_decide =
      elim (ℕ_discrete (length b) 16) [
        | no n ↦ inl (n, rw (ne_eqb (length b) 16 n))
        | yes e ↦ inr (
          λ n. n e,
          decides_entry 0 (λ x. x) 1 b [] bits_report passed
              (λ h. rw (eq-eqb (length b) 16 e, lt-ltb (first_bad_bit b) (length b) h))
              (λ h. rw (eq-eqb (length b) 16 e, le-ltb (first_bad_bit b) (length b) h) (refl, refl)),
        )
      ]

  checked_bits : Demand1 (bits_checks b) [] bits_report
  checked_bits = demand_1 [] bits_report (bits_checks b) bits_decide

  abbrev BitsReport : View → Type 0
  BitsReport v = Reports v b 0 0 0 (reading_bits b)

  after_bits : BitsReport bits_report
  after_bits =
      elim (ℕ_discrete (length b) 16) [
        | no n ↦ rw (ne_eqb (length b) 16 n) (record {
          bit = λ z. absurd (omega (arith, z));
          found = λ z. absurd (omega (arith, z));
          other = λ x. bits_short b n;
        })
        | yes e ↦
            ⊎_elim
            (λ h.
            rw (eq-eqb (length b) 16 e, lt-ltb (first_bad_bit b) (length b) h)
            (record { bit = λ z. absurd (omega (arith, z)); found = λ z. absurd (omega (arith, z)); other = λ x. bits_entry b e h }))
            (λ h.
            rw (eq-eqb (length b) 16 e, le-ltb (first_bad_bit b) (length b) h)
            (record { bit = λ z. good_bits b h 15; found = λ z. bits_judged b e h; other = λ n. absurd (n refl) }))
            (lt_or_le (first_bad_bit b) (length b))
      ]

  pub telegram_bits_demand_1 : TelegramBitsDemand1 b
  telegram_bits_demand_1 = meets (bits_checks b) [] bits_report checked_bits b 0 0 0 (reading_bits b) after_bits
