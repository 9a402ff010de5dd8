-- What the float walk holds and counts, as what the whole-number walk does, with each penalty as the count that its float is. So its steps
-- require and give what those of `walk` do, and also that each penalty is a count.
use Rattle.std.specs.Prelude.{◌≡◌, true, false, cond, List, ℕ, ◌<◌, ℤ, nat_abs, ltb, leb, Float}
use Rattle.decoding.specs.Readings.{sum_limit}
use Rattle.walk.specs.declared.progress.Count.{Count}
use Rattle.walk.specs.declared.progress.Progress.{Progress}
use Rattle.walk.specs.Progress.{none_yet, StepAsked, StepGiven, Reached}
use Rattle.float_numbers.specs.Whole.{whole_of, float}
use Rattle.float_walk.specs.declared.Penalties.{Penalties}
use Rattle.float_walk.specs.declared.Extension.{Extension}
use Rattle.float_walk.specs.declared.Extension.TheVariants.{Dropped, Kept}

-- the count that a penalty is
abbrev pub count : Float → ℕ
count x = nat_abs (whole_of x)

-- a penalty is the one float that is this count; never minus zero
pub record Penalty (x : Float) : Type 0 where
  pub is : x ≡ float (count x)
  pub small : count x < sum_limit

pub record Counts (h : Penalties) : Type 0 where
  pub best : Penalty h.best
  pub second : Penalty h.second

-- the second's penalty, above all penalties while no second is held
abbrev pub second_of : Penalties → ℕ
second_of h = cond (ltb h.held 2) none_yet (count h.second)

-- what is held, and beside it what is counted, as in the whole-number walk
abbrev pub progress_of : Penalties → Count → Progress
progress_of h c = record { held = h.held; best = count h.best; second = second_of h; count = c }

-- an extension of penalty q: dropped, or kept with the float that is q
abbrev pub Extends : Penalties → ℕ → Extension → Type 0
Extends h q Dropped = leb (second_of h) q ≡ true
Extends h q (Kept x) = (leb (second_of h) q ≡ false) × (x ≡ float q)

-- what each step requires and gives, for the whole numbers that the readings and the rows are
pub record FloatAsked (l : List ℤ) (kinds : List ℕ) (s : List ℤ) (y best second : List ℕ) (c : Count) (h : Penalties) (i : ℕ) (p : Float) : Type 0 where
  pub asked : StepAsked l kinds s y best second (progress_of h c) i (count p)
  pub penalty : Penalty p
  pub counts : Counts h

pub record FloatGiven (l : List ℤ) (kinds y best second : List ℕ) (c : Count) (h : Penalties) (i : ℕ) (p : Float)
    (s' : List ℤ) (y' best' second' : List ℕ) (c' : Count) (h' : Penalties) : Type 0 where
  pub given : StepGiven l kinds y best second (progress_of h c) i (count p) s' y' best' second' (progress_of h' c')
  pub counts : Counts h'

-- where the frozen step is in its loop
pub record FloatReached (l : List ℤ) (kinds y₀ best₀ second₀ : List ℕ) (c₀ : Count) (h : Penalties) (from : ℕ) (p₀ : Float)
    (s : List ℤ) (y best second : List ℕ) (c : Count) (i : ℕ) (p : Float) : Type 0 where
  pub reached : Reached l kinds y₀ best₀ second₀ (progress_of h c₀) from (count p₀) s y best second (progress_of h c) i (count p)
  pub penalty : Penalty p
