-- Laws of the faults: what numbers the tests give, and which telegrams have none.
use Rattle.std.specs.Prelude.{◌≡◌, refl, ◌&&◌, ◌⊎◌, ℕ, ◌≤◌, ◌<◌, ltb, eqb, Result, Ok, Err}
use Rattle.std.proofs.Common.{ap, sym, ◌∙◌, inl, inr, ⊎_elim, arith, lt-ltb, le-ltb, eq-eqb, ne_eqb}
use Rattle.std.proofs.Math.Decide.{ℕ_discrete}
use Rattle.numbers.specs.Choice.{lt_or_le, cond_by}
use Rattle.telegram.specs.declared.Telegram.{Telegram}
use Rattle.guarded.specs.declared.Fault.TheVariants.{Marker, Tilt, ZeroTilt, Field}
use Rattle.guarded.specs.Faults.{fault_carries}
use Rattle.guarded.specs.FaultLaws.{fault_above}
use Rattle.telegram.specs.Faults.{largest_cylinder, largest_direction, largest_tilt, tilt_fault, field_fault, marker_fault, writer_fault, reader_fault}
use Rattle.telegram.specs.Faults.{before, TiltGood, Writable}
use Rattle.telegram.specs.TelegramLaws.{Fits}
use Rattle.guarded.specs.declared.Fault.{Fault}

-- ---- what the tests find has one of the telegram's own numbers
abbrev pub Own : Result (Unit {0}) Fault → Type 0
Own (Ok _) = Unit {0}
Own (Err why) = 13 ≤ (fault_carries why).number

own-before : (x y : Result (Unit {0}) Fault) → Own x → Own y → Own (before x y)
own-before (Ok _) y a b = b
own-before (Err why) y a b = a

module _ (t : Telegram) where
  own_tilt : Own (tilt_fault t)
  own_tilt =
      cond_by Own (ltb largest_tilt t.tilt) (Err Tilt) _ (λ e. omega arith)
      (λ e. cond_by Own (eqb t.tilt 0 && eqb t.direction 1) (Err ZeroTilt) (Ok tt) (λ f. omega arith) (λ f. tt))

  pub own_reader : (marker : ℕ) → Own (reader_fault marker t)
  own_reader marker = own-before (marker_fault marker) (tilt_fault t) (cond_by Own (eqb marker 0) (Ok tt) (Err Marker) (λ e. tt) (λ e. omega arith)) own_tilt

-- ---- the telegrams that have no fault
-- 0 if the tests find nothing, else the fault's number
abbrev test_number : Result (Unit {0}) Fault → ℕ
test_number (Ok _) = 0
test_number (Err why) = (fault_carries why).number

good_before : (x y : Result (Unit {0}) Fault) → before x y ≡ (Ok tt) → (x ≡ (Ok tt)) × (y ≡ (Ok tt))
good_before (Ok _) y e = (refl, e)
good_before (Err why) y e = absurd (omega (arith, ap test_number e, fault_above why))

module _ (t : Telegram) where
  -- each test when it finds its fault
  pub tilt_high : largest_tilt < t.tilt → tilt_fault t ≡ Err Tilt
  tilt_high h = rw (lt-ltb largest_tilt t.tilt h)

  pub tilt_level : t.tilt ≡ 0 → t.direction ≡ 1 → tilt_fault t ≡ Err ZeroTilt
  tilt_level z d = rw (le-ltb largest_tilt t.tilt (omega arith), eq-eqb t.tilt 0 z, eq-eqb t.direction 1 d)

  pub field_beyond : (largest_cylinder < t.cylinder) ⊎ (largest_direction < t.direction) → field_fault t ≡ Err Field
  field_beyond x =
      ⊎_elim
      (λ h. rw (lt-ltb largest_cylinder t.cylinder h))
      (λ h. ⊎_elim
      (λ k. rw (lt-ltb largest_cylinder t.cylinder k))
      (λ k. rw (le-ltb largest_cylinder t.cylinder k, lt-ltb largest_direction t.direction h))
      (lt_or_le largest_cylinder t.cylinder))
      x

  pub tilt_good : TiltGood t → tilt_fault t ≡ (Ok tt)
  tilt_good g =
      elim (ℕ_discrete t.tilt 0) [
        | yes z ↦ rw (le-ltb largest_tilt t.tilt g.small, eq-eqb t.tilt 0 z, ne_eqb t.direction 1 (g.zero_level z))
        | no z ↦ rw (le-ltb largest_tilt t.tilt g.small, ne_eqb t.tilt 0 z)
      ]

  good_tilt : tilt_fault t ≡ (Ok tt) → TiltGood t
  good_tilt e =
      ⊎_elim
      (λ h. absurd (omega (arith, ap test_number (sym (tilt_high h) ∙ e))))
      (λ h.
      record {
        small = h;
        zero_level = λ z d. omega (arith, ap test_number (sym (tilt_level z d) ∙ e));
      })
      (lt_or_le largest_tilt t.tilt)

  good_field : field_fault t ≡ (Ok tt) → (t.cylinder ≤ largest_cylinder) × (t.direction ≤ largest_direction)
  good_field e =
      ⊎_elim
      (λ h. absurd (omega (arith, ap test_number (sym (field_beyond (inl h)) ∙ e))))
      (λ h.
      ⊎_elim
      (λ k. absurd (omega (arith, ap test_number (sym (field_beyond (inr k)) ∙ e))))
      (λ k. (h, k))
      (lt_or_le largest_direction t.direction))
      (lt_or_le largest_cylinder t.cylinder)

  tilt_writable : Writable t → TiltGood t
  tilt_writable w = record { small = w.tilt_small; zero_level = λ z d. omega (arith, w.zero_level z) }

  -- the writer's tests
  pub writer_good : Writable t → writer_fault t ≡ (Ok tt)
  writer_good w =
      rw (
        tilt_good (tilt_writable w),
        le-ltb largest_cylinder t.cylinder w.cylinder_small,
        le-ltb largest_direction t.direction w.direction_small,
      )

  pub good_writer : writer_fault t ≡ (Ok tt) → Writable t
  good_writer e =
      let b = good_before (tilt_fault t) (field_fault t) e in
      let g = good_tilt b.0 in
      let f = good_field b.1 in
      record {
        cylinder_small = f.0;
        direction_small = f.1;
        tilt_small = g.small;
        zero_level = λ z.
            elim (ℕ_discrete t.direction 1) [ yes d ↦ absurd (g.zero_level z d) | no d ↦ omega (arith, f.1) ];
      }

  -- the reader's
  pub reader_good : Writable t → reader_fault 0 t ≡ (Ok tt)
  reader_good w = tilt_good (tilt_writable w)

  pub good_reader : (k : ℕ) → reader_fault k t ≡ (Ok tt) → (k ≡ 0) × TiltGood t
  good_reader k e =
      let b = good_before (marker_fault k) (tilt_fault t) e in
      elim (ℕ_discrete k 0) [
        | yes z ↦ (z, good_tilt b.1)
        | no z ↦ let bad : marker_fault k ≡ Err Marker = rw (ne_eqb k 0 z) in absurd (omega (arith, ap test_number (sym bad ∙ b.0)))
      ]

-- a telegram that the writer accepts has room in its fields
pub writable_fits : {t : Telegram} → Writable t → Fits t
writable_fits w =
    record { cylinder_fits = omega (arith, w.cylinder_small); direction_fits = omega (arith, w.direction_small); tilt_fits = omega (arith, w.tilt_small) }

-- and what 16 bits say, if the reader's tests let it through, is such a telegram
pub read-writable : {t : Telegram} → Fits t → TiltGood t → Writable t
read-writable {t} f g =
    record {
      cylinder_small = omega (arith, f.cylinder_fits);
      direction_small = omega (arith, f.direction_fits);
      tilt_small = g.small;
      zero_level = λ z.
          elim (ℕ_discrete t.direction 1) [ yes d ↦ absurd (g.zero_level z d) | no d ↦ omega (arith, f.direction_fits) ];
    }
