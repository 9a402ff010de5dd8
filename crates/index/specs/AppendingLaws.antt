-- Laws of an append: when each answer is given.
use Rattle.std.specs.Prelude.{◌≡◌, List, false, ℕ, ℤ}
use Rattle.record.specs.Writing.{writing}
use Rattle.index.specs.declared.Index.{Index}
use Rattle.index.specs.Appending.{full}

-- none of the tests applies
pub record Fitting (index : Index) (r m : ℕ) (l : List ℤ) (capture : List ℕ) (entries : ℕ) : Type 0 where
  pub writes : (writing r m l capture index.used).carry.number ≡ 0
  pub room : full index entries ≡ false
