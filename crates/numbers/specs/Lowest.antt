-- The lowest one of a number's binary digits.
use Rattle.std.specs.Prelude.{◌≡◌, ℕ, suc, ◌^◌, ◌%◌}

-- digit t of n is 1, and all digits below it are 0: t says how often n can be halved
abbrev pub LowestOne : ℕ → ℕ → Type 0
LowestOne t n = n % 2 ^ suc t ≡ 2 ^ t
