-- The lowest frozen index where a row is 1, as code answers it.
use Rattle.std.specs.Prelude.{List, ℕ, Option, Some, None, cond, ltb, length}
use Rattle.words.specs.Inverse.{first_frozen_one}

-- nothing where `first_frozen_one` gives the length: where no frozen index is 1
abbrev pub found_frozen_one : List ℕ → List ℕ → Option ℕ
found_frozen_one ks u = cond (ltb (first_frozen_one ks u) (length ks)) (Some (first_frozen_one ks u)) None
