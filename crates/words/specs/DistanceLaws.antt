-- A word of RM(r,m) that is not the zero row has at least 2^(m-r) ones, and one has exactly that many; so the least distance of two words is 2^(m-r).
use Rattle.std.specs.Prelude.{List, [], ◌++◌, ℕ, zero, suc, ◌^◌, replicate}
use Rattle.words.specs.Kinds.{all_ones}

-- ---- and one with exactly that many
-- all ones for r = 0, else a lightest row of RM(r-1,m-1) and zeros
unfoldable pub lightest : ℕ → ℕ → List ℕ
lightest zero m = all_ones m
lightest (suc r) zero = []
lightest (suc r) (suc m) = lightest r m ++ replicate (2 ^ m) 0
