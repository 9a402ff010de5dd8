-- The layout of a packed record, fields to bytes and back (docs/RULES.md, §7).
-- Each field is a whole number of nibbles, four bits each: m one, r one, a reading three. All run most significant first, two nibbles to a byte.
use Rattle.std.specs.Prelude.{◌≡◌, List, [], ◌∷◌, cond, ℕ, zero, suc, ◌+◌, ◌-◌, ◌*◌, ◌/◌, ◌%◌, ◌^◌, ℤ, pos, negsuc, neg_ℤ, get_or, ltb, eqb, Option, None, Some}
use Rattle.code.specs.Sound.{largest_record_reading}

-- nibbles to bytes, with zero bits to a whole byte
abbrev pub bytes : List ℕ → List ℕ
bytes [] = []
bytes (a ∷ []) = 16 * a ∷ []
bytes (a ∷ b ∷ d) = (16 * a + b) ∷ bytes d

-- bytes to nibbles
abbrev pub nibbles : List ℕ → List ℕ
nibbles [] = []
nibbles (x ∷ s) = x / 16 ∷ x % 16 ∷ nibbles s

-- a reading as a field of 12 bits in two's complement
abbrev pub field : ℤ → ℕ
field (pos n) = n
field (negsuc n) = 4095 - n

-- the field of -2,048, where the modem's converter stops
abbrev pub bottom_rail : ℕ
bottom_rail = 2048

-- and back: the bottom rail is read as the largest reading of a record, negated
abbrev pub reading : ℕ → ℤ
reading f = cond (eqb f bottom_rail) (neg_ℤ (pos largest_record_reading)) (cond (ltb f 2048) (pos f) (negsuc (4095 - f)))

-- readings to nibbles, and back: one or two nibbles that are left are the pad
abbrev pub spread : List ℤ → List ℕ
spread [] = []
spread (x ∷ l) = field x / 256 ∷ field x / 16 % 16 ∷ field x % 16 ∷ spread l

abbrev pub gathered : List ℕ → List ℤ
gathered [] = []
gathered (a ∷ []) = []
gathered (a ∷ b ∷ []) = []
gathered (a ∷ b ∷ c ∷ d) = reading (256 * a + 16 * b + c) ∷ gathered d

-- no field of these nibbles is the bottom rail
abbrev pub NoRail : List ℕ → Type 0
NoRail [] = Unit {0}
NoRail (a ∷ []) = Unit {0}
NoRail (a ∷ b ∷ []) = Unit {0}
NoRail (a ∷ b ∷ c ∷ d) = (256 * a + 16 * b + c ≡ bottom_rail → ⊥) × NoRail d

-- a whole record: 4 bits m, 4 bits r, then the readings
unfoldable pub record_of : ℕ → ℕ → List ℤ → List ℕ
record_of r m l = bytes (m ∷ r ∷ spread l)

-- the packed part, which is all of a record's bytes after its first, and the readings in it
unfoldable pub packed : List ℤ → List ℕ
packed l = bytes (spread l)

unfoldable pub unpacked : List ℕ → List ℤ
unpacked p = gathered (nibbles p)

-- how many bytes the packed part has: 12 bits for each of 2^m readings, to a whole byte
unfoldable pub part_length : ℕ → ℕ
part_length m = (3 * 2 ^ m + 1) / 2

-- the number in a packed part's pad bits: only m = 0 has them, the last four
unfoldable pub pad_of : ℕ → List ℕ → ℕ
pad_of zero p = get_or p 1 0 % 16
pad_of (suc m) p = 0

-- how many readings a packed part of k bytes holds, among the codes whose m is below this; 0 if none of them has such a part
unfoldable pub readings_in : ℕ → ℕ → ℕ
readings_in zero k = 0
readings_in (suc m) k = cond (eqb k (part_length m)) (2 ^ m) (readings_in m k)

-- that number as code has it: None in place of 0
abbrev pub part_readings : ℕ → Option ℕ
part_readings zero = None
part_readings (suc n) = Some (suc n)
