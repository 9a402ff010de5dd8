-- The last step of the transform by halves.
use Rattle.std.specs.Prelude.{List, ◌++◌, ℕ, take, drop}
use Rattle.words.specs.Bits.{xors}

-- the second half added into the first, which begins at 0 and has h bits
abbrev pub folded : ℕ → List ℕ → List ℕ
folded h x = xors (take h x) (drop h x) ++ drop h x
