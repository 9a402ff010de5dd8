-- Laws of the telegram's bits: telegrams to 16 bits and back.
use Rattle.std.specs.Prelude.{◌≡◌, refl, List, [], ◌∷◌, ◌++◌, ℕ, ◌^◌, ◌<◌, length, get_or, take, drop}
use Rattle.std.proofs.Common.{ap, sym, ◌∙◌, arith, length-drop, take-suc, take_all, take-add, length-take-le}
use Rattle.words.specs.Bits.{Bits, digits}
use Rattle.words.specs.BitLaws.{bits_digits}
use Rattle.words.specs.TransformLaws.{bits_append, bits_more, bits_take, bits_drop}
use Rattle.telegram.specs.declared.Telegram.{Telegram}
use Rattle.guarded.specs.Guard.{of_digits}
use Rattle.guarded.specs.DigitLaws.{number_digits, number_most, digits_number}
use Rattle.telegram.specs.Telegram.{bits_with, telegram_of, marker_of}

-- ---- telegrams and 16 bits
pub length_bits : (k : ℕ) (t : Telegram) → length (bits_with k t) ≡ 16
unfolding digits
length_bits k t = refl

pub bits_bits : (k : ℕ) (t : Telegram) → k < 2 → Bits (bits_with k t)
bits_bits k t h =
    let c = digits 3 t.cylinder in
    let d = digits 1 t.direction in
    let a = digits 11 t.tilt in
    bits_more (c ++ d ++ a) k
    (bits_append (c ++ d) a (bits_append c d (bits_digits 3 t.cylinder) (bits_digits 1 t.direction)) (bits_digits 11 t.tilt)) h

pub marker_bits : (k : ℕ) (t : Telegram) → marker_of (bits_with k t) ≡ k
unfolding digits
marker_bits k t = refl

-- each field has room for its number
pub record Fits (t : Telegram) : Type 0 where
  pub cylinder_fits : t.cylinder < 2 ^ 3
  pub direction_fits : t.direction < 2 ^ 1
  pub tilt_fits : t.tilt < 2 ^ 11

-- what the bits of a telegram say, whatever the marker is
pub telegram_bits_lem : (k : ℕ) (t : Telegram) → Fits t → telegram_of (bits_with k t) ≡ t
unfolding digits
telegram_bits_lem k t f =
    let cylinder : of_digits (take 3 (bits_with k t)) ≡ t.cylinder = number_digits 3 t.cylinder f.cylinder_fits in
    let direction : of_digits (take 1 (drop 3 (bits_with k t))) ≡ t.direction = number_digits 1 t.direction f.direction_fits in
    let tilt : of_digits (take 11 (drop 4 (bits_with k t))) ≡ t.tilt = number_digits 11 t.tilt f.tilt_fits in
    rw (cylinder, direction, tilt)

digits_width : (w : ℕ) (l : List ℕ) → length l ≡ w → Bits l → digits w (of_digits l) ≡ l
digits_width w l e h = rw (← e) (digits_number l h)

number_width : (w : ℕ) (l : List ℕ) → length l ≡ w → Bits l → of_digits l < 2 ^ w
number_width w l e h = rw (← e) (number_most l h)

-- and back, for any 16 bits
module _ (b : List ℕ) (e : length b ≡ 16) (h : Bits b) where
  length-first : length (take 3 b) ≡ 3
  length-first = length-take-le 3 b (omega arith)

  length-second : length (take 1 (drop 3 b)) ≡ 1
  length-second = length-take-le 1 (drop 3 b) (rw length-drop (omega arith))

  length-third : length (take 11 (drop 4 b)) ≡ 11
  length-third = length-take-le 11 (drop 4 b) (rw length-drop (omega arith))

  pub fits_telegram : Fits (telegram_of b)
  fits_telegram =
      record {
        cylinder_fits = number_width 3 (take 3 b) length-first (bits_take 3 b h);
        direction_fits = number_width 1 (take 1 (drop 3 b)) length-second (bits_take 1 (drop 3 b) (bits_drop 3 b h));
        tilt_fits = number_width 11 (take 11 (drop 4 b)) length-third (bits_take 11 (drop 4 b) (bits_drop 4 b h));
      }

  pub bits_telegram : bits_with (marker_of b) (telegram_of b) ≡ b
  bits_telegram =
      let c = take 3 b in
      let d = take 1 (drop 3 b) in
      let a = take 11 (drop 4 b) in
      let k = get_or b 15 0 in
      let whole : c ++ d ++ a ++ k ∷ [] ≡ b =
      ap (λ (l : List ℕ). l ++ a ++ k ∷ []) (sym (take-add 3 1 b)) ∙ ap (λ (l : List ℕ). l ++ k ∷ []) (sym (take-add 4 11 b))
      ∙ sym (take-suc b 15 0 (omega arith)) ∙ take_all 16 b (omega arith) in
      rw (
        digits_width 3 c length-first (bits_take 3 b h),
        digits_width 1 d length-second (bits_take 1 (drop 3 b) (bits_drop 3 b h)),
        digits_width 11 a length-third (bits_take 11 (drop 4 b) (bits_drop 4 b h)),
      )
      whole
