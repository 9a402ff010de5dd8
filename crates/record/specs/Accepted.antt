-- The reader accepts the bytes that begin with a record by the layout, and hands back that record's packed part. What it accepts begins with the record
-- of the readings in it, if no field is the bottom rail.
use Rattle.std.specs.Prelude.{◌≡◌, refl, List, [], ◌∷◌, ◌++◌, ℕ, zero, suc, ◌+◌, ◌*◌, ◌/◌, ◌%◌, ◌^◌, ◌≤◌, ℤ, length, get_or, take, drop, Result, Ok}
use Rattle.std.proofs.Common.{ap, ◌∙◌, arith, length-append, take-append-drop, take_at}
use Rattle.decoding.specs.Readings.{Within}
use Rattle.code.specs.Sound.{Sound, largest_reading, largest_record_reading}
use Rattle.code.specs.SoundLaws.{made_of, made_good}
use Rattle.code.specs.declared.Code.{Code}
use Rattle.packing.specs.Layout.{bytes, nibbles, spread, NoRail, record_of, packed, unpacked, part_length, pad_of}
use Rattle.packing.specs.LayoutLaws.{Below, unpacked-packed, packed-unpacked, unpacked_within, length-packed}
use Rattle.record.specs.Reader.{code_of, part_of, readings_of, header_of, part_by}
use Rattle.record.specs.ReaderLaws.{Framed, framed_record, frame_by, frame_whole, length-readings_of, length_part}
use Rattle.code.specs.declared.Refusal.{Refusal}

-- the bytes s are a record of the code c with the readings l, and then the bytes after
pub record Begins (s : List ℕ) (c : Code) (l : List ℤ) (after : List ℕ) : Type 0 where
  pub sound : Sound c
  pub count : length l ≡ 2 ^ c.m
  pub within : Within largest_record_reading l
  pub whole : s ≡ record_of c.r c.m l ++ after

-- the pad of a record that the layout writes is 0
packed_clear : (m : ℕ) (l : List ℤ) → length l ≡ 2 ^ m → pad_of m (packed l) ≡ 0
unfolding packed pad_of
packed_clear zero [] e = absurd (omega arith)
packed_clear zero (x ∷ []) e = omega arith
packed_clear zero (x ∷ y ∷ l) e = absurd (omega arith)
packed_clear (suc m) l e = refl

module _ (s : List ℕ) (c : Code) (l : List ℤ) (after : List ℕ) (b : Begins s c l after) where
  -- s, taken apart
  apart : s ≡ (16 * c.m + c.r) ∷ (packed l ++ after)
  unfolding record_of packed
  apart = b.whole

  pub begins_said : code_of (get_or s 0 0) ≡ Ok c
  begins_said =
      let r : (16 * c.m + c.r) % 16 ≡ c.r = omega (arith, b.sound.r_small, b.sound.m_small) in
      let m : (16 * c.m + c.r) / 16 ≡ c.m = omega (arith, b.sound.r_small, b.sound.m_small) in
      rw (apart, r, m) (made_good c.r c.m b.sound.m_small b.sound.r_small)

  pub begins_part : part_of c s ≡ packed l
  begins_part = rw apart (take_at (packed l) after (part_length c.m) (length-packed c.m l b.count))

  pub begins_readings : readings_of c s ≡ l
  begins_readings = ap unpacked begins_part ∙ unpacked-packed l b.within

  long : suc (part_length c.m) ≤ length s
  long = rw apart (omega (arith, length-append (packed l) after, length-packed c.m l b.count))

  -- bytes that begin with a record are accepted
  pub begins_accepted : header_of s ≡ Ok c
  begins_accepted =
      frame_by s (Ok c) (λ z. omega (arith, long, z)) begins_said
      ∙ frame_whole c s (omega (arith, long)) (ap (pad_of c.m) begins_part ∙ packed_clear c.m l b.count)

  -- and their packed part is handed back
  pub begins_handed_back : part_by (header_of s) s ≡ packed l
  begins_handed_back = ap (λ (h : Result Code Refusal). part_by h s) begins_accepted ∙ begins_part

take_below : (b n : ℕ) (l : List ℕ) → Below b l → Below b (take n l)
take_below b zero l h i = omega (arith, h 0)
take_below b (suc n) [] h i = h i
take_below b (suc n) (x ∷ l) h zero = h 0
take_below b (suc n) (x ∷ l) h (suc i) = take_below b n l (λ j. h (suc j)) i

first_byte : (first : ℕ) (c : Code) → code_of first ≡ Ok c → first ≡ 16 * c.m + c.r
first_byte first c e =
    let same = (made_of (first % 16) (first / 16) c e).same in
    rw same (omega arith)

-- no reading of a record is beyond the largest of a record, nor beyond that of the calls on plain readings
pub readings_within : (c : Code) (s : List ℕ) → Within largest_record_reading (readings_of c s)
readings_within c s = unpacked_within (part_of c s)

pub readings_allowed : (c : Code) (s : List ℕ) → Within largest_reading (readings_of c s)
readings_allowed c s i = omega (arith, readings_within c s i)

-- the packed part's readings, written again
written : (s : List ℕ) (c : Code) → Below 256 s → Framed s c → NoRail (nibbles (part_of c s))
    → s ≡ record_of c.r c.m (readings_of c s) ++ drop (suc (part_length c.m)) s
unfolding record_of packed
written [] c h f n = absurd (omega (arith, f.whole))
written (first ∷ t) c h f n =
    let p = take (part_length c.m) t in
    let again : bytes (spread (unpacked p)) ≡ p =
    packed-unpacked c.m p (length_part c (first ∷ t) f.whole) (take_below 256 (part_length c.m) t (λ i. h (suc i))) f.clear n in
    rw (again, take-append-drop (part_length c.m) t) (ap (λ (b : ℕ). b ∷ t) (first_byte first c f.said))

-- bytes that are accepted begin with a record: that of the readings in their packed part, if none of its fields is the bottom rail
pub accepted_begins : (s : List ℕ) (c : Code) → Below 256 s → header_of s ≡ Ok c → NoRail (nibbles (part_of c s))
    → Begins s c (readings_of c s) (drop (suc (part_length c.m)) s)
accepted_begins s c h e n =
    let f = framed_record s c e in
    record {
      sound = f.sound;
      count = length-readings_of c s f.whole;
      within = readings_within c s;
      whole = written s c h f n;
    }
