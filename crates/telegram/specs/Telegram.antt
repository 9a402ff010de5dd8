-- The telegram's 16 information bits: cylinder 3, direction 1, tilt 11, each most significant bit first, and the marker, which is 0 and comes last.
use Rattle.std.specs.Prelude.{List, [], ◌∷◌, ◌++◌, ℕ, get_or, take, drop}
use Rattle.words.specs.Bits.{digits}
use Rattle.words.specs.Kinds.{kinds, encoded}
use Rattle.guarded.specs.Guard.{of_digits}
use Rattle.telegram.specs.declared.Telegram.{Telegram}

-- with any marker
abbrev pub bits_with : ℕ → Telegram → List ℕ
bits_with marker t = digits 3 t.cylinder ++ digits 1 t.direction ++ digits 11 t.tilt ++ marker ∷ []

-- the bits that are written, and that are read as this telegram
abbrev pub telegram_bits : Telegram → List ℕ
telegram_bits t = bits_with 0 t

-- and back: what 16 bits say
abbrev pub telegram_of : List ℕ → Telegram
telegram_of b = record { cylinder = of_digits (take 3 b); direction = of_digits (take 1 (drop 3 b)); tilt = of_digits (take 11 (drop 4 b)) }

abbrev pub marker_of : List ℕ → ℕ
marker_of b = get_or b 15 0

-- the word of RM(2,5) that carries the telegram
abbrev pub word_of : Telegram → List ℕ
word_of t = encoded 5 (kinds 2 5) (telegram_bits t)
