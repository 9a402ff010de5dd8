-- Laws of the layout: packing and unpacking are inverse to each other; lengths; one reading by its number.
use Rattle.std.specs.Prelude.{◌≡◌, refl, List, [], ◌∷◌, ◌++◌, ℕ, zero, suc, ◌+◌, ◌-◌, ◌*◌, ◌/◌, ◌%◌, ◌^◌, ◌≤◌, ◌<◌, ℤ, pos, negsuc, nat_abs, ◌+ℤ◌, ◌-ℤ◌, length}
use Rattle.std.specs.Prelude.{get_or, None, Some}
use Rattle.std.proofs.Common.{ap, sym, ◌∙◌, ⊎_elim, arith, lt-ltb, le-ltb, eq-eqb, ne_eqb}
use Rattle.std.proofs.Math.Nat.{two-pow-succ}
use Rattle.std.proofs.Math.Decide.{ℕ_discrete}
use Rattle.numbers.specs.Choice.{lt_or_le}
use Rattle.decoding.specs.Readings.{Within}
use Rattle.code.specs.Sound.{largest_record_reading}
use Rattle.numbers.specs.PartsLaws.{parts, by_parts, sum_parts}
use Rattle.packing.specs.Layout.{bytes, nibbles, field, bottom_rail, reading, NoRail, spread, gathered, record_of, packed, unpacked, part_length}
use Rattle.packing.specs.Layout.{pad_of, readings_in, part_readings}

-- every entry is below b
abbrev pub Below : ℕ → List ℕ → Type 0
Below b l = (i : ℕ) → get_or l i 0 < b

pub field_below : (x : ℤ) → nat_abs x ≤ largest_record_reading → field x < 4096
field_below (pos n) h = omega arith
field_below (negsuc n) h = omega arith

pub reading-field : (x : ℤ) → nat_abs x ≤ largest_record_reading → reading (field x) ≡ x
reading-field (pos n) h = rw (ne_eqb n bottom_rail (λ e. omega arith), lt-ltb n 2048 (omega arith))
reading-field (negsuc n) h = rw (ne_eqb (4095 - n) bottom_rail (λ e. omega arith), le-ltb (4095 - n) 2048 (omega arith)) (ap negsuc (omega arith))

pub field-reading : (f : ℕ) → f < 4096 → (f ≡ bottom_rail → ⊥) → field (reading f) ≡ f
field-reading f h n =
    rw (ne_eqb f bottom_rail n) (⊎_elim (λ k. rw (lt-ltb f 2048 k)) (λ k. rw (le-ltb f 2048 k) (omega arith)) (lt_or_le f 2048))

-- a field's reading is never beyond the largest
pub reading_within : (f : ℕ) → nat_abs (reading f) ≤ largest_record_reading
reading_within f =
    elim (ℕ_discrete f bottom_rail) [
      | yes e ↦ rw (eq-eqb f bottom_rail e) (omega arith)
      | no n ↦ rw (ne_eqb f bottom_rail n)
          (⊎_elim (λ k. rw (lt-ltb f 2048 k) (omega arith)) (λ k. rw (le-ltb f 2048 k) (omega (arith, n))) (lt_or_le f 2048))
    ]

-- Nibbles that fill a byte up: none, or one 0.
abbrev fill : List ℕ → List ℕ
fill [] = []
fill (a ∷ []) = 0 ∷ []
fill (a ∷ b ∷ d) = fill d

nibbles-bytes : (d : List ℕ) → Below 16 d → nibbles (bytes d) ≡ d ++ fill d
nibbles-bytes [] h = refl
nibbles-bytes (a ∷ []) h =
    let e : 16 * a / 16 ≡ a = omega arith in
    let z : 16 * a % 16 ≡ 0 = omega arith in
    rw (e, z)
nibbles-bytes (a ∷ b ∷ d) h =
    let e : (16 * a + b) / 16 ≡ a = omega (arith, h 1) in
    let z : (16 * a + b) % 16 ≡ b = omega (arith, h 1) in
    rw (e, z) (ap (λ (l : List ℕ). a ∷ b ∷ l) (nibbles-bytes d (λ i. h (suc (suc i)))))

bytes-nibbles : (p : List ℕ) → bytes (nibbles p) ≡ p
bytes-nibbles [] = refl
bytes-nibbles (x ∷ p) =
    let e : 16 * (x / 16) + x % 16 ≡ x = omega arith in
    rw e (ap (λ (l : List ℕ). x ∷ l) (bytes-nibbles p))

-- entries that are not there cannot be too large
below_nil : (b : ℕ) → Below (suc b) []
below_nil b i = omega arith

nibbles-below : (p : List ℕ) → Below 256 p → Below 16 (nibbles p)
nibbles-below [] h i = below_nil 15 i
nibbles-below (x ∷ p) h zero = omega (arith, h 0)
nibbles-below (x ∷ p) h (suc zero) = omega arith
nibbles-below (x ∷ p) h (suc (suc i)) = nibbles-below p (λ j. h (suc j)) i

length-nibbles : (p : List ℕ) → length (nibbles p) ≡ 2 * length p
length-nibbles [] = refl
length-nibbles (x ∷ p) = omega (arith, length-nibbles p)

spread-below : (l : List ℤ) → Within largest_record_reading l → Below 16 (spread l)
spread-below [] h i = below_nil 15 i
spread-below (x ∷ l) h zero = omega (arith, field_below x (h 0))
spread-below (x ∷ l) h (suc zero) = omega arith
spread-below (x ∷ l) h (suc (suc zero)) = omega arith
spread-below (x ∷ l) h (suc (suc (suc i))) = spread-below l (λ j. h (suc j)) i

length-spread : (l : List ℤ) → length (spread l) ≡ 3 * length l
length-spread [] = refl
length-spread (x ∷ l) = omega (arith, length-spread l)

fill_short : (d : List ℕ) → length (fill d) < 2
fill_short [] = omega arith
fill_short (a ∷ []) = omega arith
fill_short (a ∷ b ∷ d) = fill_short d

gathered-spread : (l : List ℤ) (z : List ℕ) → Within largest_record_reading l → length z < 2 → gathered (spread l ++ z) ≡ l
gathered-spread [] [] h k = refl
gathered-spread [] (a ∷ []) h k = refl
gathered-spread [] (a ∷ b ∷ z) h k = absurd (omega arith)
gathered-spread (x ∷ l) z h k =
    let e : 256 * (field x / 256) + 16 * (field x / 16 % 16) + field x % 16 ≡ field x = omega arith in
    rw (e, reading-field x (h 0)) (ap (λ (t : List ℤ). x ∷ t) (gathered-spread l z (λ i. h (suc i)) k))

-- packing and then unpacking gives the same readings
pub unpacked-packed : (l : List ℤ) → Within largest_record_reading l → unpacked (packed l) ≡ l
unfolding packed unpacked
unpacked-packed l h = rw (nibbles-bytes (spread l) (spread-below l h)) (gathered-spread l (fill (spread l)) h (fill_short (spread l)))

-- three nibbles of a field that is made of three nibbles
spread-gathered : (k : ℕ) (d : List ℕ) → length d ≡ 3 * k → Below 16 d → NoRail d → spread (gathered d) ≡ d
spread-gathered zero [] e h n = refl
spread-gathered zero (a ∷ d) e h n = absurd (omega arith)
spread-gathered (suc k) [] e h n = absurd (omega arith)
spread-gathered (suc k) (a ∷ []) e h n = absurd (omega arith)
spread-gathered (suc k) (a ∷ b ∷ []) e h n = absurd (omega arith)
spread-gathered (suc k) (a ∷ b ∷ c ∷ d) e h n =
    let f = 256 * a + 16 * b + c in
    let x : f / 256 ≡ a = omega (arith, h 1, h 2) in
    let y : f / 16 % 16 ≡ b = omega (arith, h 1, h 2) in
    let z : f % 16 ≡ c = omega (arith, h 2) in
    rw (field-reading f (omega (arith, h 0, h 1, h 2)) n.0, x, y, z)
    (ap (λ (t : List ℕ). a ∷ b ∷ c ∷ t) (spread-gathered k d (omega arith) (λ i. h (suc (suc (suc i)))) n.1))

six : (t : ℕ) → (3 * (t + t) + 1) / 2 ≡ 3 * t
six t = omega arith

-- unpacking a part with no pad bit set and no bottom rail, and then packing, gives the same bytes
pub packed-unpacked : (m : ℕ) (p : List ℕ) → length p ≡ part_length m → Below 256 p → pad_of m p ≡ 0 → NoRail (nibbles p) → packed (unpacked p) ≡ p
unfolding packed unpacked part_length pad_of
packed-unpacked zero [] e h z n = absurd (omega arith)
packed-unpacked zero (x ∷ []) e h z n = absurd (omega arith)
packed-unpacked zero (x ∷ y ∷ []) e h z n =
    let f = 256 * (x / 16) + 16 * (x % 16) + y / 16 in
    let a : f / 256 ≡ x / 16 = omega (arith, h 1) in
    let b : f / 16 % 16 ≡ x % 16 = omega (arith, h 1) in
    let c : f % 16 ≡ y / 16 = omega (arith, h 1) in
    let d : 16 * (x / 16) + x % 16 ≡ x = omega arith in
    let g : 16 * (y / 16) ≡ y = omega arith in
    rw (field-reading f (omega (arith, h 0, h 1)) n.0, a, b, c, d, g)
packed-unpacked zero (x ∷ y ∷ w ∷ p) e h z n = absurd (omega arith)
packed-unpacked (suc m) p e h z n =
    let t : (3 * 2 ^ suc m + 1) / 2 ≡ 3 * 2 ^ m = rw (two-pow-succ m) (six (2 ^ m)) in
    rw (spread-gathered (2 ^ suc m) (nibbles p) (omega (arith, length-nibbles p, two-pow-succ m)) (nibbles-below p h) n) (bytes-nibbles p)

-- no reading of a packed part is beyond the largest
gathered_within : (d : List ℕ) (i : ℕ) → nat_abs (get_or (gathered d) i (pos 0)) ≤ largest_record_reading
gathered_within [] i = omega arith
gathered_within (a ∷ []) i = omega arith
gathered_within (a ∷ b ∷ []) i = omega arith
gathered_within (a ∷ b ∷ c ∷ d) zero = reading_within (256 * a + 16 * b + c)
gathered_within (a ∷ b ∷ c ∷ d) (suc i) = gathered_within d i

pub unpacked_within : (p : List ℕ) (i : ℕ) → nat_abs (get_or (unpacked p) i (pos 0)) ≤ largest_record_reading
unfolding unpacked
unpacked_within p = gathered_within (nibbles p)

length-bytes : (d : List ℕ) → length (bytes d) ≡ (length d + 1) / 2
length-bytes [] = omega arith
length-bytes (a ∷ []) = omega arith
length-bytes (a ∷ b ∷ d) = omega (arith, length-bytes d)

pub length-packed : (m : ℕ) (l : List ℤ) → length l ≡ 2 ^ m → length (packed l) ≡ part_length m
unfolding packed part_length
length-packed m l e = omega (arith, length-bytes (spread l), length-spread l)

length-gathered : (d : List ℕ) → length (gathered d) ≡ length d / 3
length-gathered [] = omega arith
length-gathered (a ∷ []) = omega arith
length-gathered (a ∷ b ∷ []) = omega arith
length-gathered (a ∷ b ∷ c ∷ d) = omega (arith, length-gathered d)

pub length-unpacked : (p : List ℕ) → length (unpacked p) ≡ 2 * length p / 3
unfolding unpacked
length-unpacked p = omega (arith, length-gathered (nibbles p), length-nibbles p)

pub length_readings : (m : ℕ) (p : List ℕ) → length p ≡ part_length m → length (unpacked p) ≡ 2 ^ m
unfolding part_length
length_readings m p e = omega (arith, length-unpacked p)

-- two readings are in three bytes: reading 2k, and reading 2k + 1
pub reading_even : (k : ℕ) (p : List ℕ) → 3 * k + 2 ≤ length p
    → get_or (unpacked p) (2 * k) (pos 0) ≡ reading (16 * get_or p (3 * k) 0 + get_or p (3 * k + 1) 0 / 16)
unfolding unpacked
reading_even zero [] h = absurd (omega arith)
reading_even zero (x ∷ []) h = absurd (omega arith)
reading_even zero (x ∷ y ∷ p) h =
    let e : 256 * (x / 16) + 16 * (x % 16) + y / 16 ≡ 16 * x + y / 16 = omega arith in
    rw e
reading_even (suc k) [] h = absurd (omega arith)
reading_even (suc k) (x ∷ []) h = absurd (omega arith)
reading_even (suc k) (x ∷ y ∷ []) h = absurd (omega arith)
reading_even (suc k) (x ∷ y ∷ z ∷ p) h =
    let d : 2 * suc k ≡ suc (suc (2 * k)) = omega arith in
    let e : 3 * suc k ≡ suc (suc (suc (3 * k))) = omega arith in
    let f : suc (suc (suc (3 * k))) + 1 ≡ suc (suc (suc (3 * k + 1))) = omega arith in
    rw (d, e, f) (reading_even k p (omega arith))

pub reading_odd : (k : ℕ) (p : List ℕ) → 3 * k + 3 ≤ length p
    → get_or (unpacked p) (2 * k + 1) (pos 0) ≡ reading (256 * (get_or p (3 * k + 1) 0 % 16) + get_or p (3 * k + 2) 0)
unfolding unpacked
reading_odd zero [] h = absurd (omega arith)
reading_odd zero (x ∷ []) h = absurd (omega arith)
reading_odd zero (x ∷ y ∷ []) h = absurd (omega arith)
reading_odd zero (x ∷ y ∷ z ∷ p) h =
    let e : 256 * (y % 16) + 16 * (z / 16) + z % 16 ≡ 256 * (y % 16) + z = omega arith in
    rw e
reading_odd (suc k) [] h = absurd (omega arith)
reading_odd (suc k) (x ∷ []) h = absurd (omega arith)
reading_odd (suc k) (x ∷ y ∷ []) h = absurd (omega arith)
reading_odd (suc k) (x ∷ y ∷ z ∷ p) h =
    let d : 2 * suc k + 1 ≡ suc (suc (2 * k + 1)) = omega arith in
    let e : 3 * suc k + 1 ≡ suc (suc (suc (3 * k + 1))) = omega arith in
    let f : 3 * suc k + 2 ≡ suc (suc (suc (3 * k + 2))) = omega arith in
    rw (d, e, f) (reading_odd k p (omega arith))

-- a field with its sign bit set, as code computes it
pub below-zero : (f : ℕ) → f < 4096 → pos f -ℤ pos 4096 ≡ negsuc (4095 - f)
below-zero f h = by_parts (pos f -ℤ pos 4096) (negsuc (4095 - f)) (omega (arith, sum_parts (pos f) (negsuc 4095)))

-- a part of a length that some record has holds the readings that it should
pub readings-in : (b : ℕ) (p : List ℕ) → (readings_in b (length p) ≡ 0 → ⊥) → readings_in b (length p) ≡ length (unpacked p)
unfolding readings_in
readings-in zero p h = absurd (h refl)
readings-in (suc m) p h =
    elim (ℕ_discrete (length p) (part_length m)) [
      | yes e ↦ rw (eq-eqb (length p) (part_length m) e) (sym (length_readings m p e))
      | no e ↦ rw (ne_eqb (length p) (part_length m) e) (readings-in m p (λ z. h (rw (ne_eqb (length p) (part_length m) e) z)))
    ]

-- the tests of one code: its part has k bytes, or another length
pub readings_here : (m k : ℕ) → 0 < m → k ≡ part_length (m - 1) → readings_in m k ≡ 2 ^ (m - 1)
unfolding readings_in
readings_here zero k h e = absurd (omega arith)
readings_here (suc m) k h e =
    let d : suc m - 1 ≡ m = omega arith in
    rw d (rw (eq-eqb k (part_length m) (rw d at e)))

pub readings_past : (m k : ℕ) → 0 < m → (k ≡ part_length (m - 1) → ⊥) → readings_in m k ≡ readings_in (m - 1) k
unfolding readings_in
readings_past zero k h e = absurd (omega arith)
readings_past (suc m) k h e =
    let d : suc m - 1 ≡ m = omega arith in
    rw d (rw (ne_eqb k (part_length m) (λ z. e (rw d z))))

-- the bytes of two readings: their fields' first eight bits, the four bits in the middle of each side, the last eight
pub byte_first : (k : ℕ) (l : List ℤ) → 2 * k < length l → get_or (packed l) (3 * k) 0 ≡ field (get_or l (2 * k) (pos 0)) / 16
unfolding packed
byte_first k [] h = absurd (omega arith)
byte_first zero (x ∷ []) h = omega arith
byte_first zero (x ∷ y ∷ l) h = omega arith
byte_first (suc k) (x ∷ []) h = absurd (omega arith)
byte_first (suc k) (x ∷ y ∷ l) h =
    let d : 2 * suc k ≡ suc (suc (2 * k)) = omega arith in
    let e : 3 * suc k ≡ suc (suc (suc (3 * k))) = omega arith in
    rw (d, e) (byte_first k l (omega arith))

pub byte_middle : (k : ℕ) (l : List ℤ) → 2 * k + 1 < length l
    → get_or (packed l) (3 * k + 1) 0 ≡ 16 * (field (get_or l (2 * k) (pos 0)) % 16) + field (get_or l (2 * k + 1) (pos 0)) / 256
unfolding packed
byte_middle k [] h = absurd (omega arith)
byte_middle zero (x ∷ []) h = absurd (omega arith)
byte_middle zero (x ∷ y ∷ l) h = refl
byte_middle (suc k) (x ∷ []) h = absurd (omega arith)
byte_middle (suc k) (x ∷ y ∷ l) h =
    let d : 2 * suc k ≡ suc (suc (2 * k)) = omega arith in
    let e : 3 * suc k + 1 ≡ suc (suc (suc (3 * k + 1))) = omega arith in
    let f : suc (suc (2 * k)) + 1 ≡ suc (suc (2 * k + 1)) = omega arith in
    rw (d, e, f) (byte_middle k l (omega arith))

pub byte_last : (k : ℕ) (l : List ℤ) → 2 * k + 1 < length l → get_or (packed l) (3 * k + 2) 0 ≡ field (get_or l (2 * k + 1) (pos 0)) % 256
unfolding packed
byte_last k [] h = absurd (omega arith)
byte_last zero (x ∷ []) h = absurd (omega arith)
byte_last zero (x ∷ y ∷ l) h = omega arith
byte_last (suc k) (x ∷ []) h = absurd (omega arith)
byte_last (suc k) (x ∷ y ∷ l) h =
    let d : 2 * suc k + 1 ≡ suc (suc (2 * k + 1)) = omega arith in
    let e : 3 * suc k + 2 ≡ suc (suc (suc (3 * k + 2))) = omega arith in
    rw (d, e) (byte_last k l (omega arith))

-- the byte of a last single reading's last four bits, and the pad
pub byte_pad : (k : ℕ) (l : List ℤ) → 2 * k + 1 ≡ length l → get_or (packed l) (3 * k + 1) 0 ≡ 16 * (field (get_or l (2 * k) (pos 0)) % 16)
unfolding packed
byte_pad k [] h = absurd (omega arith)
byte_pad zero (x ∷ []) h = refl
byte_pad zero (x ∷ y ∷ l) h = absurd (omega arith)
byte_pad (suc k) (x ∷ []) h = absurd (omega arith)
byte_pad (suc k) (x ∷ y ∷ l) h =
    let d : 2 * suc k ≡ suc (suc (2 * k)) = omega arith in
    let e : 3 * suc k + 1 ≡ suc (suc (suc (3 * k + 1))) = omega arith in
    rw (d, e) (byte_pad k l (omega arith))

-- how many bytes any readings take
pub length_packed_any : (l : List ℤ) → length (packed l) ≡ (3 * length l + 1) / 2
unfolding packed
length_packed_any l = omega (arith, length-bytes (spread l), length-spread l)

-- a field as code computes it: 4,096 added, and the remainder of the division by that
abbrev pub raised : ℤ → ℕ
raised (pos n) = n + 4096
raised (negsuc n) = 4095 - n

pub raised-sum : (x : ℤ) → nat_abs x ≤ largest_record_reading → x +ℤ pos 4096 ≡ pos (raised x)
raised-sum (pos n) h = refl
raised-sum (negsuc n) h =
    by_parts (negsuc n +ℤ pos 4096) (pos (4095 - n)) (omega (arith, sum_parts (negsuc n) (pos 4096), parts (negsuc n +ℤ pos 4096)))

pub raised_small : (x : ℤ) → nat_abs x ≤ largest_record_reading → raised x < 8192
raised_small (pos n) h = omega arith
raised_small (negsuc n) h = omega arith

pub raised-field : (x : ℤ) → nat_abs x ≤ largest_record_reading → raised x % 4096 ≡ field x
raised-field (pos n) h = omega arith
raised-field (negsuc n) h = omega arith

-- a record is its first byte and its packed part
pub record_parts : (r m : ℕ) (l : List ℤ) → record_of r m l ≡ (16 * m + r) ∷ packed l
unfolding record_of packed
record_parts r m l = refl

pub length_record : (r m : ℕ) (l : List ℤ) → length l ≡ 2 ^ m → length (record_of r m l) ≡ suc (part_length m)
length_record r m l e = ap length (record_parts r m l) ∙ ap suc (length-packed m l e)

-- how many readings, as code has it
pub part_readings-some : (n : ℕ) → 0 < n → part_readings n ≡ Some n
part_readings-some zero h = absurd (omega arith)
part_readings-some (suc n) h = refl

pub part_readings-no : (n : ℕ) → part_readings n ≡ None → n ≡ 0
part_readings-no zero e = refl
part_readings-no (suc n) e = absurd (cc e)

pub record Held (n k : ℕ) : Type 0 where
  pub some : n ≡ 0 → ⊥
  pub is : n ≡ k

pub part_readings-is : (n k : ℕ) → part_readings n ≡ Some k → Held n k
part_readings-is zero k e = absurd (cc e)
part_readings-is (suc n) k e = record { some = λ z. omega (arith, z); is = cc e }
