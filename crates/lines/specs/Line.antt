-- The text of the program's lines (docs/RULES.md, §8).
use Rattle.std.specs.Prelude.{◌≡◌, List, [], ◌∷◌, ◌++◌, map, cond, ℕ, zero, suc, ◌+◌, ◌/◌, ◌%◌, length, ltb}
use Prim.Native.Char.{code}
use Prim.Native.String as Chars
use Rattle.numbers.specs.Laid.{laid_at}
use Rattle.lines.specs.declared.Text.{Text}

-- the bytes of a text
unfoldable pub bytes_of : Chars.String → List ℕ
bytes_of Chars.[] = []
bytes_of (Chars.◌∷◌ c t) = code c ∷ bytes_of t

-- the byte of a digit from 0 to 9, or of a bit
abbrev pub digit_byte : ℕ → ℕ
digit_byte d = 48 + d

-- a number in decimal: the text of n / 10 where that is above 0, then the last digit; k digits at most
unfoldable pub decimal_within : ℕ → ℕ → List ℕ
decimal_within zero n = []
decimal_within (suc k) n = cond (ltb n 10) (digit_byte n ∷ []) (decimal_within k (n / 10) ++ digit_byte (n % 10) ∷ [])

-- twenty digits hold every number of 64 bits
abbrev pub decimal : ℕ → List ℕ
decimal n = decimal_within 20 n

-- the line of record w that was answered: which one and its bits, then penalty, gap and visits
unfoldable pub info_text : ℕ → List ℕ → List ℕ
info_text w bits = decimal w ++ bytes_of " info " ++ map digit_byte bits

unfoldable pub figures_text : ℕ → ℕ → ℕ → List ℕ
figures_text penalty gap visits =
    bytes_of " penalty " ++ decimal penalty ++ bytes_of " margin " ++ decimal gap ++ bytes_of " visits " ++ decimal visits ++ bytes_of "\n"

unfoldable pub answer_line : ℕ → List ℕ → ℕ → ℕ → ℕ → List ℕ
answer_line w bits penalty gap visits = info_text w bits ++ figures_text penalty gap visits

-- the line of record w that was refused with the number why
unfoldable pub refused_line : ℕ → ℕ → List ℕ
refused_line w why = decimal w ++ bytes_of " refused " ++ decimal why ++ bytes_of "\n"

unfoldable pub total_line : ℕ → ℕ → List ℕ
total_line read refused = decimal read ++ bytes_of " read, " ++ decimal refused ++ bytes_of " refused\n"

-- what a function that writes a text leaves: its end, and the buffer
pub record Put (d : List ℕ) (at : ℕ) (t : List ℕ) (end : ℕ) (d' : List ℕ) : Type 0 where
  pub end_is : end ≡ at + length t
  pub text_is : d' ≡ laid_at at t d

-- what a method of `Text` that writes a text leaves: the same buffer, as long as before, and in it the text
pub record Puts (old new : Text) (t : List ℕ) : Type 0 where
  pub same_buffer : new.out.ghost_name ≡ old.out.ghost_name
  pub same_length : length new.out.now ≡ length old.out.now
  pub put : Put old.out.now old.at t new.at new.out.now
