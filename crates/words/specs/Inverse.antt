-- From a word back to its information bits, or the lowest frozen index that is 1 (docs/RULES.md, §1 and §6).
use Rattle.std.specs.Prelude.{◌≡◌, List, [], ◌∷◌, cond, ℕ, zero, suc, ◌<◌, length, get_or, ltb}
use Rattle.words.specs.Word.{transform}
use Rattle.words.specs.Kinds.{pick}

pub data TakenBack : Type 0 where
  -- the information bits
  taken : List ℕ → TakenBack
  -- the lowest frozen index where the row u is 1
  frozen_one : ℕ → TakenBack

-- the lowest frozen index where the row is 1, or the row's length if there is none
unfoldable pub first_frozen_one : List ℕ → List ℕ → ℕ
first_frozen_one [] u = 0
first_frozen_one (k ∷ ks) [] = 0
first_frozen_one (zero ∷ ks) (zero ∷ u) = suc (first_frozen_one ks u)
first_frozen_one (zero ∷ ks) (suc a ∷ u) = 0
first_frozen_one (suc k ∷ ks) (a ∷ u) = suc (first_frozen_one ks u)

-- i is the lowest frozen index where the row u is 1
pub record LowestFrozenOne (ks u : List ℕ) (i : ℕ) : Type 0 where
  pub below : i < length ks
  pub frozen : get_or ks i 0 ≡ 0
  pub one : get_or u i 0 ≡ 1
  pub lowest : (j : ℕ) → j < i → get_or ks j 0 ≡ 0 → get_or u j 0 ≡ 0

-- the transform is its own inverse: it gives the row u that the word comes from
unfoldable pub taken_back : ℕ → List ℕ → List ℕ → TakenBack
taken_back m ks x =
    let u = transform m x in
    cond (ltb (first_frozen_one ks u) (length ks)) (frozen_one (first_frozen_one ks u)) (taken (pick ks u))
