-- The writer never writes -2,048: no field of a record that it has written is the bottom rail.
use Rattle.std.specs.Prelude.{◌≡◌, List, [], ◌∷◌, ℕ, suc, ◌+◌, ◌*◌, ◌/◌, ◌%◌, ◌≤◌, ◌<◌, ℤ, pos, negsuc, nat_abs, drop, Result}
use Rattle.std.proofs.Common.{ap, sym, ◌∙◌, arith}
use Rattle.decoding.specs.Readings.{Within}
use Rattle.code.specs.Sound.{largest_record_reading, rm}
use Rattle.packing.specs.Layout.{bytes, nibbles, field, bottom_rail, NoRail, spread, packed}
use Rattle.packing.specs.LayoutLaws.{field_below}
use Rattle.record.specs.Reader.{part_of, part_by}
use Rattle.record.specs.Writing.{writing}
use Rattle.record.specs.WrittenRead.{writes_asked, written_read}
use Rattle.code.specs.declared.Code.{Code}
use Rattle.code.specs.declared.Refusal.{Refusal}

not_rail : (x : ℤ) → nat_abs x ≤ largest_record_reading → field x ≡ bottom_rail → ⊥
not_rail (pos n) h e = omega arith
not_rail (negsuc n) h e = omega arith

-- the two nibbles of a byte
high : (a b : ℕ) → b < 16 → (16 * a + b) / 16 ≡ a
high a b h = omega arith

low : (a b : ℕ) → b < 16 → (16 * a + b) % 16 ≡ b
low a b h = omega arith

-- the field a of two that share three bytes: all of the first byte, and the high nibble of the second
first_field : (a b : ℕ) → b < 16
    → 256 * ((16 * (a / 256) + a / 16 % 16) / 16) + 16 * ((16 * (a / 256) + a / 16 % 16) % 16) + (16 * (a % 16) + b) / 16 ≡ a
first_field a b h = rw (high (a / 256) (a / 16 % 16) (omega arith), low (a / 256) (a / 16 % 16) (omega arith), high (a % 16) b h) (omega arith)

-- the field a on its own
only_field : (a : ℕ) → 256 * ((16 * (a / 256) + a / 16 % 16) / 16) + 16 * ((16 * (a / 256) + a / 16 % 16) % 16) + 16 * (a % 16) / 16 ≡ a
only_field a =
    let last : 16 * (a % 16) / 16 ≡ a % 16 = omega arith in
    rw (high (a / 256) (a / 16 % 16) (omega arith), low (a / 256) (a / 16 % 16) (omega arith), last) (omega arith)

-- the field b: the low nibble of the second byte, and all of the third
second-field : (a b : ℕ) → b < 4096
    → 256 * ((16 * a + b / 256) % 16) + 16 * ((16 * (b / 16 % 16) + b % 16) / 16) + (16 * (b / 16 % 16) + b % 16) % 16 ≡ b
second-field a b h =
    rw (low a (b / 256) (omega arith), high (b / 16 % 16) (b % 16) (omega arith), low (b / 16 % 16) (b % 16) (omega arith)) (omega arith)

no_rail_packed : (l : List ℤ) → Within largest_record_reading l → NoRail (nibbles (bytes (spread l)))
no_rail_packed [] h = tt
no_rail_packed (x ∷ []) h = (λ e. not_rail x (h 0) (sym (only_field (field x)) ∙ e), tt)
no_rail_packed (x ∷ y ∷ l) h =
    let small = field_below y (h 1) in
    let rest = no_rail_packed l (λ i. h (suc (suc i))) in (
      λ e. not_rail x (h 0) (sym (first_field (field x) (field y / 256) (omega arith)) ∙ e),
      (λ e. not_rail y (h 1) (sym (second-field (field x % 16) (field y) small) ∙ e), rest),
    )

-- for every input: if it does not refuse, the part that the reader then finds has no such field
pub no_rail_written : (r m : ℕ) (l : List ℤ) (d : List ℕ) (place : ℕ) → (writing r m l d place).carry.number ≡ 0
    → NoRail (nibbles (part_of (rm r m) (drop place (writing r m l d place).buffer)))
unfolding packed
no_rail_written r m l d place z =
    let s = drop place (writing r m l d place).buffer in
    let back = written_read r m l d place z in
    let part : part_of (rm r m) s ≡ packed l = sym (ap (λ (h : Result Code Refusal). part_by h s) back.accepted) ∙ back.part in
    rw part (no_rail_packed l (writes_asked r m l d place z).within)
