-- The answer read off the walk under an allowance, as a search does it; and what a larger allowance changes.
use Rattle.std.specs.Prelude.{◌≡◌, List, ℕ, ◌≤◌, ℤ}
use Rattle.decoding.specs.Walk.{State, walked, needed}

-- a walk that ends under an allowance is the walk without a limit, within the allowance
pub record EndsAs (m : ℕ) (ks : List ℕ) (l : List ℤ) (allowed : ℕ) (s : State) : Type 0 where
  pub in_time : needed m ks l ≤ allowed
  pub same : walked m ks l ≡ s
