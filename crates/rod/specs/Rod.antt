-- A rod position as the message of a guarded word of RM(1,m): its m binary digits, most significant first.
use Rattle.std.specs.Prelude.{List, ℕ}
use Rattle.words.specs.Bits.{digits}
use Rattle.words.specs.Kinds.{kinds, encoded}
use Rattle.guarded.specs.Guard.{guarded_bits}

-- the m + 1 bits that are written, and that are read as this position
abbrev pub rod_bits : ℕ → ℕ → List ℕ
rod_bits m position = guarded_bits (digits m position)

-- the word of RM(1,m) that carries the position
abbrev pub rod_word : ℕ → ℕ → List ℕ
rod_word m position = encoded m (kinds 1 m) (rod_bits m position)
