-- Laws of writing: when each answer is given, and that no second answer and no second buffer meet the promise.
use Rattle.std.specs.Prelude.{◌≡◌, refl, List, ℕ, suc, ◌+◌, ◌-◌, ◌^◌, ◌≤◌, ◌<◌, ℤ, pos, nat_abs, length, drop, Result, Ok, Err}
use Rattle.std.proofs.Common.{ap, sym, ◌∙◌, ⊎_elim, arith, drop-drop}
use Rattle.std.proofs.Math.Decide.{ℕ_discrete}
use borrow.Rule.Slice.PartMut.{put_mid}
use borrow.Author.Tests.{eq-eqb, ne_eqb, lt-ltb, le-ltb}
use Rattle.numbers.specs.Choice.{lt_or_le}
use Rattle.decoding.specs.Readings.{Within}
use Rattle.numbers.specs.Laid.{laid_at}
use Rattle.code.specs.Sound.{Sound, largest_record_reading, made, rm}
use Rattle.code.specs.SoundLaws.{made_of, made_good}
use Rattle.code.specs.Entries.{first_bad_reading}
use Rattle.code.specs.EntriesLaws.{first-none, good_readings}
use Rattle.code.specs.RefusalLaws.{refusal_only, number_above}
use Rattle.code.specs.declared.Code.{Code}
use Rattle.code.specs.declared.Refusal.{Refusal}
use Rattle.code.specs.declared.Refusal.TheVariants.{InputLength, OutputLength, Entry}
use Rattle.packing.specs.Layout.{record_of, part_length}
use Rattle.record.specs.Writing.{WrittenOutcome, outcome_of, writable, written_by}

-- the answers of the tests
module _ (r m : ℕ) (l : List ℤ) (bytes place : ℕ) where
  pub not_made : {why : Refusal} → made r m ≡ Err why → Err why ≡ writable r m l bytes place
  unfolding writable
  not_made e = rw e

  module _ (c : Code) (good : made r m ≡ Ok c) where
    pub not_long : (length l ≡ 2 ^ c.m → ⊥) → Err InputLength ≡ writable r m l bytes place
    unfolding writable
    not_long f = rw (good, ne_eqb (length l) (2 ^ c.m) f)

    module _ (long : length l ≡ 2 ^ c.m) where
      abbrev bad : ℕ
      bad = first_bad_reading largest_record_reading l

      pub not_good : bad < length l → Err (Entry bad) ≡ writable r m l bytes place
      unfolding writable
      not_good h = rw (good, eq-eqb (length l) (2 ^ c.m) long, lt-ltb bad (length l) h)

      module _ (fine : length l ≤ bad) where
        pub no_room : bytes - place < suc (part_length c.m) → Err OutputLength ≡ writable r m l bytes place
        unfolding writable
        no_room h =
            rw (good, eq-eqb (length l) (2 ^ c.m) long, le-ltb bad (length l) fine, lt-ltb (bytes - place) (suc (part_length c.m)) h)

        pub may_write : suc (part_length c.m) ≤ bytes - place → Ok c ≡ writable r m l bytes place
        unfolding writable
        may_write h =
            rw (good, eq-eqb (length l) (2 ^ c.m) long, le-ltb bad (length l) fine, le-ltb (bytes - place) (suc (part_length c.m)) h)

-- ---- and back: what holds if none of the tests applies
pub record Writable (r m : ℕ) (l : List ℤ) (bytes place : ℕ) (c : Code) : Type 0 where
  pub same : c ≡ rm r m
  pub sound : Sound c
  pub long : length l ≡ 2 ^ c.m
  pub within : Within largest_record_reading l
  pub room : suc (part_length c.m) ≤ bytes - place

data Decided (r m : ℕ) (l : List ℤ) (bytes place : ℕ) : Type 0 where
  allows : (c : Code) → Ok c ≡ writable r m l bytes place → Writable r m l bytes place c → Decided r m l bytes place
  refuses : (why : Refusal) → Err why ≡ writable r m l bytes place → Decided r m l bytes place

module _ (r m : ℕ) (l : List ℤ) (bytes place : ℕ) where
  decided_good : (c : Code) → made r m ≡ Ok c → Decided r m l bytes place
  decided_good c good =
      let bad = first_bad_reading largest_record_reading l in
      let k = suc (part_length c.m) in
      elim (ℕ_discrete (length l) (2 ^ c.m)) [
        | no f ↦ refuses InputLength (not_long r m l bytes place c good f)
        | yes e ↦ ⊎_elim (λ h. refuses (Entry bad) (not_good r m l bytes place c good e h))
            (λ h. ⊎_elim (λ g. refuses OutputLength (no_room r m l bytes place c good e h g))
            (λ g. allows c (may_write r m l bytes place c good e h g)
            (record {
              same = (made_of r m c good).same;
              sound = (made_of r m c good).sound;
              long = e;
              within = good_readings largest_record_reading l h;
              room = g;
            }))
            (lt_or_le (bytes - place) k))
            (lt_or_le bad (length l))
      ]

  decided_by : (x : Result Code Refusal) → made r m ≡ x → Decided r m l bytes place
  decided_by (Ok c) e = decided_good c e
  decided_by (Err why) e = refuses why (not_made r m l bytes place e)

  pub allowed_writable : (c : Code) → Ok c ≡ writable r m l bytes place → Writable r m l bytes place c
  allowed_writable c e =
      elim (decided_by (made r m) refl) [
        | allows d f w ↦ let same : c ≡ d = cc in rw same w
        | refuses why f ↦ let z : ◌≡◌ {A = ℕ} 0 1 = cc in absurd (omega arith)
      ]

  -- so exactly then the tests refuse nothing
  pub writable_allowed : (c : Code) → Writable r m l bytes place c → Ok c ≡ writable r m l bytes place
  writable_allowed c w =
      let good : made r m ≡ Ok c = rw w.same (made_good r m (rw w.same at w.sound.m_small) (rw w.same at w.sound.r_small)) in
      let none = first-none (pos 0) nat_abs largest_record_reading l (length l) (λ j h. w.within j) refl in
      may_write r m l bytes place c good w.long (omega (arith, none)) w.room

-- the buffer, if a part of it was lent and came back as the record
pub wrote : (c : Code) (l : List ℤ) (d q : List ℕ) (place k : ℕ) → q ≡ record_of c.r c.m l → length q ≡ k
    → outcome_of (Ok (place + k)) (put_mid place ((place + k) - place) d q) ≡ written_by (Ok c) l d place
wrote c l d q place k e h =
    let room : (place + k) - place ≡ length q = omega arith in
    let end : place + k ≡ place + length q = omega arith in
    let behind : drop (length q) (drop place d) ≡ drop (place + length q) d = drop-drop (length q) place d in
    rw (room, behind, end) (ap (λ (x : List ℕ). outcome_of (Ok (place + length x)) (laid_at place x d)) e)

-- ---- no second answer and no second buffer
answer_only : (a b : Result ℕ Refusal) (x y : List ℕ) → outcome_of a x ≡ outcome_of b y → a ≡ b
answer_only (Ok n) (Ok n') x y e = ap (λ (o : WrittenOutcome). Ok o.next) e
answer_only (Ok n) (Err why) x y e = absurd (omega (arith, number_above why, ap (λ (o : WrittenOutcome). o.carry.number) e))
answer_only (Err why) (Ok n) x y e = absurd (omega (arith, number_above why, ap (λ (o : WrittenOutcome). o.carry.number) e))
answer_only (Err why) (Err why') x y e = ap Err (refusal_only why why' (ap (λ (o : WrittenOutcome). o.carry) e))

outcome_buffer : (a : Result ℕ Refusal) (x : List ℕ) → (outcome_of a x).buffer ≡ x
outcome_buffer (Ok n) x = refl
outcome_buffer (Err why) x = refl

pub write_only : (o : WrittenOutcome) (a b : Result ℕ Refusal) (x y : List ℕ) → outcome_of a x ≡ o → outcome_of b y ≡ o → (a ≡ b) × (x ≡ y)
write_only o a b x y e f =
    let same : outcome_of a x ≡ outcome_of b y = e ∙ sym f in
    (answer_only a b x y same, sym (outcome_buffer a x) ∙ ap (λ (o : WrittenOutcome). o.buffer) same ∙ outcome_buffer b y)
