-- Eight bits as one number, a bit in each byte, and three layers on them at once.
use Rattle.std.specs.Prelude.{List, ℕ, ◌*◌, ◌^◌, ◌/◌, ◌%◌, get_or}
use Rattle.std.specs.Int.Bits.{bit_and, bit_xor}
use Rattle.numbers.specs.Sums.{total, tabulate}

-- the first eight entries as one number, the first lowest
unfoldable pub packed : List ℕ → ℕ
packed x = total (λ i. get_or x i 0 * 256 ^ i) 8

-- the eight bytes of a number
unfoldable pub unpacked : ℕ → List ℕ
unpacked y = tabulate (λ i. y / 256 ^ i % 256) 8

-- the second of two bytes added into the first, in each pair; then the second of two pairs, and the second of two fours
abbrev pub bytes_added : ℕ → ℕ
bytes_added x = bit_xor x (bit_and (x / 2 ^ 8) 71777214294589695)

abbrev pub pairs_added : ℕ → ℕ
pairs_added x = bit_xor x (bit_and (x / 2 ^ 16) 281470681808895)

abbrev pub fours_added : ℕ → ℕ
fours_added x = bit_xor x (x / 2 ^ 32)
