-- The words of RM(r,m) by halves: x is a word of RM(r,m+1) exactly if the sum of its halves is one of RM(r-1,m) and its second half one of RM(r,m).
-- So that r = 0 is not a separate case, a code is named here by d = r + 1; for d = 0 it holds only the zero row.
use Rattle.std.specs.Prelude.{◌≡◌, List, ℕ, ◌+◌, ◌^◌, ◌≤◌, ◌<◌, length, get_or}
use Rattle.words.specs.Bits.{Bits, ones}
use Rattle.words.specs.Word.{transform}

pub record Below (d m : ℕ) (x : List ℕ) : Type 0 where
  pub long : length x ≡ 2 ^ m
  pub are_bits : Bits x
  pub frozen : (i : ℕ) → i < 2 ^ m → ones m i + d ≤ m → get_or (transform m x) i 0 ≡ 0
