-- Laws of a loop that sums a penalty: one position more, and no part is above the whole.
use Rattle.std.specs.Prelude.{◌≡◌, List, [], ◌∷◌, ℕ, zero, suc, ◌+◌, ◌≤◌, ◌<◌, ℤ, pos, length, get_or, take}
use Rattle.std.proofs.Common.{zero-le, arith, add-one, not-suc-le-zero, le_of_suc-le-suc}
use Rattle.decoding.specs.Readings.{loss, penalty, sizes}

suc-more : (l : List ℤ) (x : List ℕ) (j : ℕ) → j < length l → j < length x
    → penalty (take (suc j) l) x ≡ penalty (take j l) x + loss (get_or l j (pos 0)) (get_or x j 0)
unfolding penalty
suc-more [] x j h k = absurd (not-suc-le-zero h)
suc-more (r ∷ l) [] j h k = absurd (not-suc-le-zero k)
suc-more (r ∷ l) (b ∷ x) zero h k = omega arith
suc-more (r ∷ l) (b ∷ x) (suc j) h k = omega (arith, suc-more l x j (le_of_suc-le-suc h) (le_of_suc-le-suc k))

pub penalty-more : (l : List ℤ) (x : List ℕ) (j : ℕ) → j < length l → j < length x
    → penalty (take (j + 1) l) x ≡ penalty (take j l) x + loss (get_or l j (pos 0)) (get_or x j 0)
penalty-more l x j h k = rw add-one (suc-more l x j h k)

pub sizes-part : (l : List ℤ) (j : ℕ) → sizes (take j l) ≤ sizes l
unfolding sizes
sizes-part l zero = zero-le
sizes-part [] (suc j) = zero-le
sizes-part (r ∷ l) (suc j) = omega (arith, sizes-part l j)
