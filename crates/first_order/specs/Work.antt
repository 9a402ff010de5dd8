-- What the inner functions require and give.
use Rattle.std.specs.Prelude.{◌≡◌, ◌⊎◌, List, ◌++◌, map, ℕ, ◌+◌, ◌*◌, ◌^◌, ◌%◌, ◌≤◌, ◌<◌, ℤ, pos, nat_abs, get_or, take, drop}
use Rattle.std.specs.Int.{from_bool}
use Rattle.decoding.specs.Quick.{hard}
use Rattle.hadamard.specs.Hadamard.{sums, differences, LargestTwo}
use Rattle.first_order.specs.declared.Seen.{Seen}

-- sizes are below this, so that a size and a place below 256 fit one number of 32 bits
abbrev pub largest_entry : ℕ
largest_entry = 2 ^ 24

-- one step of the transform, on halves of h entries
abbrev pub crossed : ℕ → List ℤ → List ℤ
crossed h l = sums (take h l) (drop h l) ++ differences (take h l) (drop h l)

abbrev pub size_at : List ℤ → ℕ → ℕ
size_at h i = nat_abs (get_or h i (pos 0))

-- a size and its place in one number
abbrev pub key_at : List ℤ → ℕ → ℕ
key_at h i = size_at h i * 256 + i

-- the largest of the first j values of f, 0 where all are 0
pub record Top (f : ℕ → ℕ) (j most : ℕ) : Type 0 where
  pub none_above : (i : ℕ) → i < j → f i ≤ most
  pub some_has : (most ≡ 0) ⊎ ((i : ℕ) × (i < j) × (f i ≡ most))

-- what looking at all entries finds
pub record Looked (h : List ℤ) (s : Seen) : Type 0 where
  pub largest : LargestTwo h s.place s.best s.second
  pub sign-is : from_bool s.negative ≡ hard (get_or h s.place (pos 0))

-- the first h bits repeated after them, each plus b, modulo 2
abbrev pub doubled : ℕ → ℕ → List ℕ → List ℕ
doubled h b x = take h x ++ map (λ a. (a + b) % 2) (take h x) ++ drop (h + h) x
