-- Information indices that the information step takes at once, each with the bit that its value speaks for: how many, and what that puts into the path.
use Rattle.std.specs.Prelude.{◌≡◌, Bool, ◌&&◌, cond, List, ℕ, ◌%◌, ◌^◌, ◌<◌, ◌≤◌, ℤ, eqb, ltb}
use Rattle.blocks.specs.Information.{all_chosen, with_hard}
use Rattle.walk.specs.declared.progress.Count.{Count}

-- a block of n indices may be taken at i: one starts there and is not all there are, and its indices carry information
abbrev pub hard_here : List ℕ → Count → ℕ → ℕ → Bool
hard_here kinds c i n = eqb (i % n) 0 && (ltb n (2 ^ c.m) && all_chosen kinds i n)

-- the largest one of 16, 8, 4 and 2 indices: f of its length and the exponent of that, or none where there is none
abbrev pub by_block : {A : Type 0} → List ℕ → Count → ℕ → (ℕ → ℕ → A) → A → A
by_block kinds c i f none =
    cond (hard_here kinds c i 16) (f 16 4)
    (cond (hard_here kinds c i 8) (f 8 3) (cond (hard_here kinds c i 4) (f 4 2) (cond (hard_here kinds c i 2) (f 2 1) none)))

-- what taking a block asks
pub record HardAsked (c : Count) (i : ℕ) : Type 0 where
  pub room : 2 ^ c.m ≤ 256
  pub inside : i < 2 ^ c.m

-- what one block of n = 2^s gives
pub record HardGiven (kinds : List ℕ) (rows : List ℤ) (c : Count) (y : List ℕ) (i n s : ℕ) (r : Bool) (y' : List ℕ) : Type 0 where
  pub answers : r ≡ hard_here kinds c i n
  pub puts : y' ≡ cond (hard_here kinds c i n) (with_hard n s i rows y) y

-- the largest: its length, or 1 where there is none, and then nothing changes
pub record BlockGiven (kinds : List ℕ) (rows : List ℤ) (c : Count) (y : List ℕ) (i n : ℕ) (y' : List ℕ) : Type 0 where
  pub answers : n ≡ by_block kinds c i (λ n s. n) 1
  pub puts : y' ≡ by_block kinds c i (λ n s. with_hard n s i rows y) y
