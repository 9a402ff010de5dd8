-- A guarded word's information bits: the message, and last the marker, which is 0. The row u of the word has the marker at the last index, n - 1; the all-ones
-- word's has a 1 there and nowhere else. So a link that is turned over sets the marker and leaves the message.
use Rattle.std.specs.Prelude.{List, [], ◌∷◌, ◌++◌, ℕ, ◌+◌, ◌-◌, ◌*◌, ◌^◌, length, get_or, take}

-- with any marker
abbrev pub with_marker : ℕ → List ℕ → List ℕ
with_marker marker message = message ++ marker ∷ []

-- the bits that are written, and that are read as this message
abbrev pub guarded_bits : List ℕ → List ℕ
guarded_bits message = with_marker 0 message

-- and back: the marker, and the message
abbrev pub last_bit : List ℕ → ℕ
last_bit b = get_or b (length b - 1) 0

abbrev pub message_of : List ℕ → List ℕ
message_of b = take (length b - 1) b

-- the number that bits of a message say: its binary digits, most significant first
unfoldable pub of_digits : List ℕ → ℕ
of_digits [] = 0
of_digits (b ∷ l) = b * 2 ^ length l + of_digits l
