-- The theorems on telegrams hold: by what the encoder and the search promise, and by the demands.
use Rattle.std.specs.Prelude.{◌≡◌, refl, ◌⊎◌, ◌↔◌, List, [], ◌∷◌, ◌++◌, ℕ, ◌+◌, ◌-◌, ◌*◌, ◌/◌, ◌%◌, ◌≤◌, ◌<◌, ℤ, length, replicate, Result, Ok, Err}
use Rattle.std.proofs.Common.{ap, ap₂, sym, subst, ◌∙◌, inl, inr, ⊎_elim, arith, eq-eqb, ne_eqb}
use Rattle.std.proofs.Math.Decide.{ℕ_discrete}
use Rattle.std.proofs.Math.IntN.{neg_ℤ-neg_ℤ}
use Rattle.numbers.specs.Choice.{lt_or_le}
use Rattle.numbers.specs.Sums.{total, tabulate, sum}
use Rattle.words.specs.Bits.{Bits, xors, digit, digits, ones}
use Rattle.words.specs.Word.{transform}
use Rattle.words.specs.Kinds.{kind, kinds, encoded, InformationBits, Word, all_ones}
use Rattle.words.specs.Inverse.{TakenBack, taken, frozen_one, taken_back}
use Rattle.words.proofs.InverseLaws.{taken_encoded}
use Rattle.words.proofs.KindLaws.{length-kinds, bits_kinds}
use Rattle.words.specs.TransformLaws.{get_or-xors, bits_more, bits_zeros}
use Rattle.decoding.specs.Walk.{needed, tree}
use Rattle.decoding.proofs.DemandsMet.{demands_code}
use Rattle.code.specs.declared.Refusal.TheVariants.{OutOfVisits}
use Rattle.code.specs.Sound.{default_allowance}
use Rattle.code.specs.Entries.{first_bad_bit}
use Rattle.code.specs.EntriesLaws.{good_bits}
use Rattle.code.specs.Demand1.{NoneApplies}
use Rattle.search.specs.Outcome as Search
use Rattle.search.proofs.Demand1Met.{search_demand_1}
use Rattle.search.specs.RunnerUp.{RunnerUpOutcome}
use Rattle.search.specs.DemandsMet.{larger_allowance, outcome_demands}
use Rattle.telegram.specs.declared.Telegram.{Telegram}
use Rattle.guarded.specs.declared.Fault.TheVariants.{Link, Marker}
use Rattle.telegram.specs.Telegram.{bits_with, telegram_bits, telegram_of, marker_of}
use Rattle.telegram.specs.TelegramLaws.{length_bits, bits_bits, marker_bits, telegram_bits_lem, fits_telegram, bits_telegram}
use Rattle.telegram.specs.Faults.{Writable, writer_fault, reader_fault}
use Rattle.telegram.proofs.FaultLaws.{Own, own_reader, writer_good, good_writer, reader_good, good_reader, writable_fits, read-writable}
use Rattle.guarded.specs.Faults.{fault_carries}
use Rattle.guarded.specs.FaultLaws.{fault_above}
use Rattle.guarded.specs.Written.{WriteOutcome}
use Rattle.telegram.specs.Outcome.{written_if, ReadOutcome, showing, faulted, shown_if, judged, heard, link_search, reading_telegram}
use Rattle.telegram.specs.Outcome.{reading_bits}
use Rattle.telegram.proofs.OutcomeLaws.{dimension_25, sum_25, writing-tested, reading-found, reading_other, reading-refused}
use Rattle.telegram.proofs.OutcomeLaws.{Passed, tests, passed, stopped, FoundBest, found_all, found-again, out_of_visits_lem, found_long, found_bits}
use Rattle.telegram.proofs.OutcomeLaws.{bits_short, bits_entry, bits_read}
use Rattle.telegram.specs.Demand1.{link_checks}
use Rattle.telegram.proofs.Demand1Met.{telegram_read_demand_1, unmarked}
use Rattle.telegram.specs.Theorems.{Finds, turned, WriteTheorems, TelegramLargerAllowance, ReadTheorems, TurnedTheorems, NeverShown, TurnedOver}
use Rattle.telegram.specs.Theorems.{with_numbers, said_after, BitsTheorems, telegrams, ordinal, Counted, Theorems}
use Rattle.guarded.specs.declared.Fault.{Fault}

-- ---- words of RM(2,5)
taken_bits : TakenBack → List ℕ
taken_bits (taken b) = b
taken_bits (frozen_one i) = []

bits_only : (b b' : List ℕ) → InformationBits (kinds 2 5) b → InformationBits (kinds 2 5) b' → encoded 5 (kinds 2 5) b ≡ encoded 5 (kinds 2 5) b' → b ≡ b'
unfolding taken_bits
bits_only b b' i i' e =
    let ks = kinds 2 5 in
    let back : (c : List ℕ) → InformationBits ks c → taken_back 5 ks (encoded 5 ks c) ≡ taken c = λ c j.
    taken_encoded 5 ks c (length-kinds 2 5) (bits_kinds 2 5) j.0 j.1 in
    ap taken_bits (sym (back b i) ∙ ap (taken_back 5 ks) e ∙ back b' i')

information : (t : Telegram) → InformationBits (kinds 2 5) (telegram_bits t)
information t = (length_bits 0 t ∙ sym sum_25, bits_bits 0 t (omega arith))

-- the all-ones word has only the marker
abbrev marker_alone : List ℕ
marker_alone = replicate 15 0 ++ 1 ∷ []

ones-word : Word 5 (kinds 2 5) (all_ones 5)
unfolding kinds kind ones digit tabulate transform
ones-word =
    record { bits = marker_alone; long = sym sum_25; are_bits = bits_more (replicate 15 0) 1 (bits_zeros 15) (omega arith); gives = refl }

-- ---- the writer
written_good : (x : Result (Unit {0}) Fault) (t : Telegram) (word : List ℕ) → (written_if x t word).carry.number ≡ 0 → x ≡ (Ok tt)
written_good (Ok _) t word e = refl
written_good (Err why) t word e = absurd (omega (arith, fault_above why))

write_theorems : WriteTheorems
write_theorems =
    record {
      accepts = λ t word e.
          let is = writing-tested t.cylinder t.direction t.tilt word e in (
            λ w. good_writer t (written_good (writer_fault t) t word (ap (λ (o : WriteOutcome). o.carry.number) (sym is ∙ w))),
            λ w. is ∙ ap (λ (x : Result (Unit {0}) Fault). written_if x t word) (writer_good t w),
          );
      one_word = λ t t' w w' e.
          sym (telegram_bits_lem 0 t (writable_fits w))
          ∙ ap telegram_of (bits_only (telegram_bits t) (telegram_bits t') (information t) (information t') e)
          ∙ telegram_bits_lem 0 t' (writable_fits w');
    }

-- ---- the reader
judged-upright : (t : Telegram) → Writable t → (p g v : ℕ) → judged (telegram_bits t) p g v ≡ showing t p g v
judged-upright t w p g v =
    ap₂ (λ (k : ℕ) (u : Telegram). shown_if (reader_fault k u) u p g v) (marker_bits 0 t) (telegram_bits_lem 0 t (writable_fits w))
    ∙ ap (λ (x : Result (Unit {0}) Fault). shown_if x t p g v) (reader_good t w)

judged-turned : (t : Telegram) (p g v : ℕ) → judged (xors (telegram_bits t) marker_alone) p g v ≡ faulted Marker
unfolding digits
judged-turned t p g v = refl

-- the search of the negated readings finds a word if the upright one does: it has the marker added
turned-found : (allowed : ℕ) (l : List ℤ) → (link_search allowed l).number ≡ 0
    → ((link_search allowed (turned l)).number ≡ 0) × ((link_search allowed (turned l)).bits ≡ xors (link_search allowed l).bits marker_alone)
unfolding ones-word
turned-found allowed l n =
    let plus =
    (((outcome_demands (replicate 16 0) (replicate 32 0) (found_all allowed l n).passes).demand_3_all_ones ones-word (replicate 16 0) (replicate 32 0)
    (sym dimension_25) refl).same_search allowed).0 in
    (plus.same_number ∙ n, plus.bits_added n)

-- the bits that the search found are the telegram's
module _ (allowed : ℕ) (l : List ℤ) (t : Telegram) (w : Writable t) (h : Finds allowed l t) where
  sent : FoundBest allowed l
  sent = found_all allowed l h.answers

  sent_bits : (link_search allowed l).bits ≡ telegram_bits t
  sent_bits =
      bits_only (link_search allowed l).bits (telegram_bits t) sent.best.information (information t) (sent.best.gives ∙ h.finds)

  written_read : let o = link_search allowed l in reading_telegram allowed l ≡ showing t o.penalty o.gap o.visits
  written_read =
      let o = link_search allowed l in
      reading-found allowed l h.answers
      ∙ ap (λ (b : List ℕ). judged b o.penalty o.gap o.visits) sent_bits
      ∙ judged-upright t w o.penalty o.gap o.visits

  -- ---- every reading negated
  same_visits : needed 5 (kinds 2 5) (turned l) ≡ needed 5 (kinds 2 5) l
  same_visits = ((demands_code 2 5 l sent.passes.entries.long).demand_3_all_ones ones-word).same_visits

  turned-passed : Passed (turned l)
  turned-passed =
      ((outcome_demands (replicate 16 0) (replicate 32 0) sent.passes).demand_3_all_ones ones-word (replicate 16 0) (replicate 32 0)
      (sym dimension_25) refl).sound

  module _ (allowed' : ℕ) where
    module _ (k : needed 5 (kinds 2 5) (turned l) ≤ allowed') where
      again : link_search allowed' l ≡ link_search allowed l
      again = found-again allowed l sent allowed' (rw (← same_visits) k)

      still_finds : Finds allowed' l t
      still_finds =
          record {
            answers = ap (λ (o : Search.Outcome). o.number) again ∙ h.answers;
            finds = ap (λ (o : Search.Outcome). o.word) again ∙ h.finds;
          }

      marked : reading_telegram allowed' (turned l) ≡ faulted Marker
      marked =
          let o = link_search allowed' (turned l) in
          let plus = turned-found allowed' l still_finds.answers in
          let bits : o.bits ≡ xors (telegram_bits t) marker_alone =
          plus.1 ∙ ap (λ (b : List ℕ). xors b marker_alone) (ap (λ (s : Search.Outcome). s.bits) again ∙ sent_bits) in
          reading-found allowed' (turned l) plus.0
          ∙ ap (λ (b : List ℕ). judged b o.penalty o.gap o.visits) bits
          ∙ judged-turned t o.penalty o.gap o.visits

    module _ (k : allowed' < needed 5 (kinds 2 5) (turned l)) where
      out : reading_telegram allowed' (turned l) ≡ faulted (Link (OutOfVisits allowed'))
      out = reading-refused allowed' (turned l) (OutOfVisits allowed') (replicate 16 0) (replicate 32 0) (out_of_visits_lem allowed' (turned l) turned-passed k)

      out_upright : reading_telegram allowed' l ≡ faulted (Link (OutOfVisits allowed'))
      out_upright =
          reading-refused allowed' l (OutOfVisits allowed') (replicate 16 0) (replicate 32 0)
          (out_of_visits_lem allowed' l sent.passes (rw (← same_visits) k))

module _ (allowed : ℕ) (l : List ℤ) (t : Telegram) (w : Writable t) (h : Finds allowed l t) where
  turned_theorems : TurnedTheorems l
  turned_theorems =
      let number : ReadOutcome → ℕ = λ o. o.carry.number in
      let need = needed 5 (kinds 2 5) (turned l) in
      record {
        marked = marked allowed l t w h;
        out = out allowed l t w h;
        same_visits = same_visits allowed l t w h;
        exactly = λ allowed'. (
          λ e.
              ⊎_elim (λ k. absurd (omega (arith, e, ap number (out allowed l t w h allowed' k))))
              (λ k. ap number (written_read allowed' l t w (still_finds allowed l t w h allowed' k)))
              (lt_or_le allowed' need),
          λ e.
              ⊎_elim (λ k. absurd (omega (arith, e, ap number (out_upright allowed l t w h allowed' k))))
              (λ k. ap number (marked allowed l t w h allowed' k))
              (lt_or_le allowed' need),
        );
      }

never_shown : NeverShown
never_shown t w l allowed allowed' h =
    ⊎_elim (λ k. rw (out allowed l t w h allowed' k) (omega arith, refl)) (λ k. rw (marked allowed l t w h allowed' k) (omega arith, refl))
    (lt_or_le allowed' (needed 5 (kinds 2 5) (turned l)))

-- ---- what is read
shown_good : (x : Result (Unit {0}) Fault) (t : Telegram) (p g v : ℕ) → (shown_if x t p g v).carry.number ≡ 0 → x ≡ (Ok tt)
shown_good (Ok _) t p g v e = refl
shown_good (Err why) t p g v e = absurd (omega (arith, fault_above why))

-- no test of the reader gives 6
shown-own : (x : Result (Unit {0}) Fault) (t : Telegram) (p g v : ℕ) → Own x → (shown_if x t p g v).carry.number ≡ 6 → ⊥
shown-own (Ok _) t p g v o e = omega arith
shown-own (Err why) t p g v o e = omega arith

module _ (allowed : ℕ) (l : List ℤ) (n : (link_search allowed l).number ≡ 0) where
  abbrev b : List ℕ
  b = (link_search allowed l).bits

  read_found : (reading_telegram allowed l).carry.number ≡ 0
      → Writable (reading_telegram allowed l).telegram × Finds allowed l (reading_telegram allowed l).telegram
  read_found z =
      let o = link_search allowed l in
      let f = found_all allowed l n in
      let long = found_long allowed l f in
      let bits = found_bits allowed l f in
      let t = telegram_of b in
      let is = reading-found allowed l n in
      let good = shown_good (reader_fault (marker_of b) t) t o.penalty o.gap o.visits (ap (λ (r : ReadOutcome). r.carry.number) (sym is) ∙ z) in
      let g = good_reader t (marker_of b) good in
      let says : (reading_telegram allowed l).telegram ≡ t =
      ap (λ (r : ReadOutcome). r.telegram) (is ∙ ap (λ (x : Result (Unit {0}) Fault). shown_if x t o.penalty o.gap o.visits) good) in
      let whole : telegram_bits t ≡ b = ap (λ (k : ℕ). bits_with k t) (sym g.0) ∙ bits_telegram b long bits in
      rw says (
        read-writable (fits_telegram b long bits) g.1,
        record { answers = n; finds = sym f.best.gives ∙ ap (encoded 5 (kinds 2 5)) (sym whole) },
      )

read_six : (allowed : ℕ) (l : List ℤ) → (reading_telegram allowed l).carry.number ≡ 6 → (link_search allowed l).number ≡ 6
read_six allowed l e =
    let o = link_search allowed l in
    elim (ℕ_discrete o.number 0) [
      | yes n ↦ absurd
          (shown-own (reader_fault (marker_of o.bits) (telegram_of o.bits)) (telegram_of o.bits) o.penalty o.gap o.visits
          (own_reader (telegram_of o.bits) (marker_of o.bits))
          (ap (λ (r : ReadOutcome). r.carry.number) (sym (reading-found allowed l n)) ∙ e))
      | no n ↦ ap (λ (r : ReadOutcome). r.carry.number) (sym (reading_other allowed l n)) ∙ e
    ]

-- ---- information bits
numbers-beside : (x : Result (Unit {0}) Fault) (t : Telegram) (p g v : ℕ) → with_numbers p g v (shown_if x t 0 0 0) ≡ shown_if x t p g v
numbers-beside (Ok _) t p g v = refl
numbers-beside (Err why) t p g v = rw (ne_eqb (fault_carries why).number 0 (λ z. omega (arith, z, fault_above why)))

reader_after_search : (allowed : ℕ) (l : List ℤ) → reading_telegram allowed l ≡ said_after (link_search allowed l)
reader_after_search allowed l =
    let o = link_search allowed l in
    elim (ℕ_discrete o.number 0) [
      | yes n ↦
          let f = found_all allowed l n in
          let t = telegram_of o.bits in
          let said = bits_read o.bits (found_long allowed l f) (found_bits allowed l f) in
          reading-found allowed l n
          ∙ sym (numbers-beside (reader_fault (marker_of o.bits) t) t o.penalty o.gap o.visits)
          ∙ ap (with_numbers o.penalty o.gap o.visits) (sym said)
          ∙ rw (eq-eqb o.number 0 n)
      | no n ↦ reading_other allowed l n ∙ rw (ne_eqb o.number 0 n)
    ]

-- bits that give a telegram passed all tests
module _ (b : List ℕ) (z : (reading_bits b).carry.number ≡ 0) where
  all-passed : (length b ≡ 16) × Bits b
  all-passed =
      elim (ℕ_discrete (length b) 16) [
        | no n ↦ absurd (omega (arith, z, ap (λ (o : ReadOutcome). o.carry.number) (bits_short b n)))
        | yes e ↦
            ⊎_elim
            (λ h. absurd (omega (arith, z, ap (λ (o : ReadOutcome). o.carry.number) (bits_entry b e h))))
            (λ h. (e, good_bits b h))
            (lt_or_le (first_bad_bit b) (length b))
      ]

  bits_said : Writable (reading_bits b).telegram × (b ≡ telegram_bits (reading_bits b).telegram)
  bits_said =
      let long = all-passed.0 in
      let bits = all-passed.1 in
      let t = telegram_of b in
      let is = bits_read b long bits in
      let good = shown_good (reader_fault (marker_of b) t) t 0 0 0 (ap (λ (r : ReadOutcome). r.carry.number) (sym is) ∙ z) in
      let g = good_reader t (marker_of b) good in
      let says : (reading_bits b).telegram ≡ t =
      ap (λ (r : ReadOutcome). r.telegram) (is ∙ ap (λ (x : Result (Unit {0}) Fault). shown_if x t 0 0 0) good) in
      let whole : telegram_bits t ≡ b = ap (λ (k : ℕ). bits_with k t) (sym g.0) ∙ bits_telegram b long bits in (
        subst Writable (sym says) (read-writable (fits_telegram b long bits) g.1),
        sym whole ∙ ap telegram_bits (sym says),
      )

bits_theorems : BitsTheorems
bits_theorems =
    record {
      written_said = λ t w. bits_read (telegram_bits t) (length_bits 0 t) (bits_bits 0 t (omega arith)) ∙ judged-upright t w 0 0 0;
      said_written = bits_said;
      after_search = reader_after_search;
    }

telegram_larger_allowance : (l : List ℤ) → TelegramLargerAllowance l
unfolding reading_telegram
telegram_larger_allowance l allowed more h n =
    let six_passed : (link_search allowed l).number ≡ 6 → (reading_telegram allowed l).carry.number ≡ 6 =
    λ e. ap (λ (r : ReadOutcome). r.carry.number) (reading_other allowed l (λ z. omega (arith, e, z))) ∙ e in
    ap (λ (w : RunnerUpOutcome). heard w.outcome) (larger_allowance 2 5 l (replicate 16 0) (replicate 32 0) allowed more h (λ e. n (six_passed e)))

tree_25 : tree (kinds 2 5) ≡ 131759
unfolding tree total sum kinds kind ones digit tabulate
tree_25 = refl

read_theorems : ReadTheorems
read_theorems =
    record {
      written_read = λ t w allowed l h. written_read allowed l t w h;
      read-written = λ allowed l z.
          elim (ℕ_discrete (link_search allowed l).number 0) [
            | yes n ↦ read_found allowed l n z
            | no n ↦ absurd (n (ap (λ (r : ReadOutcome). r.carry.number) (sym (reading_other allowed l n)) ∙ z))
          ];
      whole_tree = tree_25;
      never_out = λ l e.
          let six = read_six default_allowance l e in
          elim (tests default_allowance l) [
            | passed x ↦ (outcome_demands (replicate 16 0) (replicate 32 0) x).whole_tree default_allowance (omega (arith, tree_25)) six
            | stopped why f h ↦ omega (arith, six, ap (λ (o : Search.Outcome). o.number) f)
          ];
      larger = telegram_larger_allowance;
    }

-- ---- all readings, upright and negated
turned-twice : (l : List ℤ) → turned (turned l) ≡ l
turned-twice [] = refl
turned-twice (x ∷ l) = ap₂ ◌∷◌ (neg_ℤ-neg_ℤ x) (turned-twice l)

module _ (l : List ℤ) (allowed : ℕ) where
  abbrev upright : List ℕ
  upright = (link_search allowed l).bits

  abbrev negated : List ℕ
  negated = (link_search allowed (turned l)).bits

  found_back : (link_search allowed (turned l)).number ≡ 0 → (link_search allowed l).number ≡ 0
  found_back n = subst (λ (k : List ℤ). (link_search allowed k).number ≡ 0) (turned-twice l) (turned-found allowed (turned l) n).0

  one_marker : (link_search allowed l).number ≡ 0 → marker_of upright + marker_of negated ≡ 1
  one_marker n =
      let f = found_all allowed l n in
      let added : marker_of negated ≡ (marker_of upright + 1) % 2 =
      ap marker_of (turned-found allowed l n).1 ∙ get_or-xors upright marker_alone 15 (found_long allowed l f) in
      omega (arith, added, found_bits allowed l f 15)

  passes_marker : let n = (reading_telegram allowed l).carry.number in
      (n ≡ 0) ⊎ (n ≡ 14) ⊎ (n ≡ 15) → NoneApplies (link_checks allowed l) × (marker_of upright ≡ 0)
  passes_marker =
      let d = telegram_read_demand_1 allowed l in
      ⊎_elim (λ e. let x = d.shown.0 e in (x.0, x.1))
      (⊎_elim (λ e. let x = d.fourteen.0 e in (x.0, x.1)) (λ e. let x = d.fifteen.0 e in (x.0, x.1)))

  marked_exactly : let n = (reading_telegram allowed l).carry.number in
      ((reading_telegram allowed (turned l)).carry.number ≡ 13) ↔ ((n ≡ 0) ⊎ (n ≡ 14) ⊎ (n ≡ 15))
  marked_exactly =
      let none = (search_demand_1 2 5 allowed l (replicate 16 0) (replicate 32 0)).done in
      let none' = (search_demand_1 2 5 allowed (turned l) (replicate 16 0) (replicate 32 0)).done in
      let d = (telegram_read_demand_1 allowed (turned l)).thirteen in (
        λ e.
            let x = d.0 e in
            let n = found_back (none'.1 x.0) in
            unmarked allowed l (none.0 n) (omega (arith, x.1, one_marker n)),
        λ e.
            let x = passes_marker e in
            let n = none.1 x.0 in
            d.1 (none'.0 (turned-found allowed l n).0, omega (arith, x.1, one_marker n)),
      )

either_way : (l : List ℤ) → TurnedOver l
either_way l =
    record {
      never_both = λ allowed allowed' e e'.
          let x = read_theorems.read-written allowed l e in
          let r = never_shown (reading_telegram allowed l).telegram x.0 l allowed allowed' x.1 in
          omega (arith, e', r.0);
      marked_exactly = marked_exactly l;
      upright_exactly = λ allowed.
          let n = (reading_telegram allowed (turned l)).carry.number in
          subst (λ (k : List ℤ). ((reading_telegram allowed k).carry.number ≡ 13) ↔ ((n ≡ 0) ⊎ (n ≡ 14) ⊎ (n ≡ 15)))
          (turned-twice l) (marked_exactly (turned l) allowed);
    }

-- ---- how many there are
-- direction 1 has a tilt
tilted : {t : Telegram} → Writable t → (t.direction ≡ 0) ⊎ ((t.direction ≡ 1) × (0 < t.tilt))
tilted {t} w =
    elim (ℕ_discrete t.direction 0) [
      | yes e ↦ inl e
      | no e ↦
          let some : 0 < t.tilt = elim (ℕ_discrete t.tilt 0) [ yes z ↦ absurd (e (w.zero_level z)) | no z ↦ omega arith ] in
          inr (omega (arith, w.direction_small), some)
    ]

same_telegram : (t t' : Telegram) → (t.cylinder ≡ t'.cylinder) × (t.direction ≡ t'.direction) × (t.tilt ≡ t'.tilt) → t ≡ t'
same_telegram t t' e =
    let made : ℕ → ℕ → ℕ → Telegram = λ a b c. record { cylinder = a; direction = b; tilt = c } in
    ap (λ (a : ℕ). made a t.direction t.tilt) e.0 ∙ ap₂ (λ (b c : ℕ). made t'.cylinder b c) e.1 e.2

cylinder_once : (c c' x x' : ℕ) → x < 3001 → x' < 3001 → c * 3001 + x ≡ c' * 3001 + x' → c ≡ c'
cylinder_once c c' x x' h h' e =
    ⊎_elim (λ k. absurd (omega arith)) (λ k. ⊎_elim (λ j. absurd (omega arith)) (λ j. omega arith) (lt_or_le c' c)) (lt_or_le c c')

ordinal_once : (t t' : Telegram) → Writable t → Writable t' → ordinal t ≡ ordinal t' → t ≡ t'
ordinal_once t t' w w' e =
    let x = t.direction * 1500 + t.tilt in
    let x' = t'.direction * 1500 + t'.tilt in
    let a = w.tilt_small in
    let a' = w'.tilt_small in
    let c : t.cylinder ≡ t'.cylinder =
    cylinder_once t.cylinder t'.cylinder x x' (omega (arith, w.direction_small)) (omega (arith, w'.direction_small)) e in
    same_telegram t t'
    (⊎_elim
    (λ d. ⊎_elim (λ d'. (c, omega arith, omega arith)) (λ d'. absurd (omega arith)) (tilted w'))
    (λ d. ⊎_elim (λ d'. absurd (omega arith)) (λ d'. (c, omega arith, omega arith)) (tilted w'))
    (tilted w))

ordinal-all : (n : ℕ) → n < telegrams → (t : Telegram) × Writable t × (ordinal t ≡ n)
ordinal-all n h =
    let c = n / 3001 in
    let r = n % 3001 in
    ⊎_elim
    (λ k. (
      record { cylinder = c; direction = 1; tilt = r - 1500 },
      record { cylinder_small = omega arith; direction_small = omega arith; tilt_small = omega arith; zero_level = λ z. absurd (omega arith) },
      omega arith,
    ))
    (λ k. (
      record { cylinder = c; direction = 0; tilt = r },
      record { cylinder_small = omega arith; direction_small = omega arith; tilt_small = omega arith; zero_level = λ z. refl },
      omega arith,
    ))
    (lt_or_le 1500 r)

counted : Counted
counted =
    record {
      below = λ t w. omega (arith, w.cylinder_small, w.direction_small, w.tilt_small);
      once = ordinal_once;
      all = ordinal-all;
    }

pub theorems : Theorems
theorems =
    record {
      writes = write_theorems;
      reads = read_theorems;
      bits = bits_theorems;
      turns = λ t w allowed l h. turned_theorems allowed l t w h;
      never_shown = never_shown;
      either_way = either_way;
      counted = counted;
    }
