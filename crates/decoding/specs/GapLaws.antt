-- What the gap means: it is how much all readings together must change before the answer can.
-- Readings that changed by less, Σ |l_j - l'_j| in all, keep the best word and a gap above 0; that the bound cannot be raised is in GapReachedLaws.
use Rattle.std.specs.Prelude.{◌≡◌, cond, ℕ, ◌+◌, ◌<◌, ℤ, pos, nat_abs, ◌+ℤ◌, ◌-ℤ◌, eqb}
use mathlib.Core.List.{List, [], ◌∷◌}
use Rattle.decoding.specs.Readings.{turn}
use Rattle.decoding.specs.Best.{gap, best_bits, best_word}

-- how much all readings together have changed
unfoldable pub drift : List ℤ → List ℤ → ℕ
drift [] l' = 0
drift (r ∷ l) [] = 0
drift (r ∷ l) (s ∷ l') = nat_abs (r -ℤ s) + drift l l'

-- how much the readings favour x over y: the sum, over the places where the two differ, of the reading, negated where x has 1
unfoldable pub leaning : List ℤ → List ℕ → List ℕ → ℤ
leaning [] x y = pos 0
leaning (r ∷ l) [] y = pos 0
leaning (r ∷ l) (a ∷ x) [] = pos 0
leaning (r ∷ l) (a ∷ x) (b ∷ y) = cond (eqb a b) (pos 0) (turn a r) +ℤ leaning l x y

-- what readings that changed by less than the gap still have
pub record Undrifted (m : ℕ) (ks : List ℕ) (l l' : List ℤ) : Type 0 where
  pub same_word : best_word m ks l' ≡ best_word m ks l
  pub same_bits : best_bits m ks l' ≡ best_bits m ks l
  pub gap-left : 0 < gap m ks l'
