-- What the arrays of images, places and columns hold.
use Rattle.std.specs.Prelude.{◌≡◌, Bool, true, false, not, ◌&&◌, List, [], ℕ, ◌+◌, ◌*◌, ◌^◌, ◌%◌, ◌/◌, ◌≤◌, ◌<◌, length, get_or, ltb, eqb}
use Rattle.std.specs.Int.Bits.{bit_xor}
use Rattle.numbers.specs.Sums.{tabulate}
use Rattle.words.specs.Bits.{digit}
use Rattle.code.specs.declared.Refusal.{Refusal}
use Rattle.code.specs.declared.Refusal.TheVariants.{Map}
use Rattle.code.specs.Sound.{largest_m}
use Rattle.code.specs.Entries.{first_bad_bit}
use Rattle.maps.specs.Maps.{number, image, where_is, can_undo}

-- ---- the lengths of a map
-- a table of this many bytes is m by m, and a row of this many m long
abbrev pub is_long : ℕ → ℕ → ℕ → Bool
is_long m table row = eqb table (m * m) && eqb row m

-- the lengths are those of a map of at most 256 positions
pub record Mapped (m : ℕ) (A b : List ℕ) : Type 0 where
  pub small : m ≤ largest_m
  pub table_long : length A ≡ m * m
  pub row_long : length b ≡ m

-- the lengths are those of a map, and the map is of these
pub record MapMade (m : ℕ) (A b : List ℕ) (m' : ℕ) (A' b' : List ℕ) : Type 0 where
  pub right : is_long m (length A) (length b) ≡ true
  pub same_m : m' ≡ m
  pub same_table : A' ≡ A
  pub same_row : b' ≡ b

-- ---- the test 11
abbrev pub are_bits : List ℕ → Bool
are_bits l = not (ltb (first_bad_bit l) (length l))

-- table and row have bits only, and an undo map exists
abbrev pub is_map : ℕ → List ℕ → List ℕ → Bool
is_map m A b = are_bits A && (are_bits b && can_undo m A)

-- ---- the arrays
-- the first k entries of l are f 0, f 1, .. f (k - 1)
abbrev pub Shows : (ℕ → ℕ) → ℕ → List ℕ → Type 0
Shows f k l = (i : ℕ) → i < k → get_or l i 0 ≡ f i

-- the first h entries of l, and the first i of them repeated h further on, with x added
pub record Doubled (h i x : ℕ) (l k : List ℕ) : Type 0 where
  pub same : Shows (λ j. get_or l j 0) h k
  pub added : (j : ℕ) → j < i → get_or k (h + j) 0 ≡ bit_xor (get_or l j 0) x

-- at v, the highest of the first n places where the entry is v; 0 if there is none
pub record Placed (n : ℕ) (images places : List ℕ) : Type 0 where
  pub is_place : Shows (λ v. where_is (λ j. get_or images j 0) v n) 256 places

-- it is a map: the images without its row, and their places
pub record Taken (m : ℕ) (A b : List ℕ) (images places : List ℕ) : Type 0 where
  pub good : is_map m A b ≡ true
  pub images_are : Shows (image m A []) (2 ^ m) images
  pub places_are : Shows (λ v. where_is (image m A []) v (2 ^ m)) 256 places

-- it is none, and the refusal says so
pub record NotTaken (m : ℕ) (A b : List ℕ) (why : Refusal) : Type 0 where
  pub bad : is_map m A b ≡ false
  pub says_so : why ≡ Map

-- each image, with x added, is the place of an entry, and there is room for that many
pub record Moves {T : Type 0} (images : List ℕ) (x : ℕ) (from to : List T) : Type 0 where
  pub room : length to ≡ length from
  pub each : length from ≤ length images
  pub within : (j : ℕ) → j < length from → bit_xor (get_or images j 0) x < length from

-- entry j is the entry of l at the image of j with x added
abbrev pub moved : {T : Type 0} → T → ℕ → List ℕ → List T → List T
moved d x images l = tabulate (λ j. get_or l (bit_xor (get_or images j 0) x) d) (length l)

-- n entries of a table with these columns, row by row
abbrev pub spread_of : List ℕ → ℕ → ℕ → List ℕ
spread_of columns width n = tabulate (λ i. digit (i / width) (get_or columns (i % width) 0)) n

-- the undo map by the places of images
pub record UndoPut (m : ℕ) (places b C c : List ℕ) : Type 0 where
  pub table_is : C ≡ tabulate (λ i. digit (i / m) (get_or places (2 ^ (i % m)) 0)) (m * m)
  pub row_is : c ≡ tabulate (λ p. digit p (get_or places (number m (λ q. get_or b q 0)) 0)) m

-- the product of a map, by its images and its row's number x, with the map (C, c)
pub record ProductPut (m : ℕ) (images : List ℕ) (x : ℕ) (C c D d : List ℕ) : Type 0 where
  pub table_is : D ≡ tabulate (λ i. digit (i / m) (get_or images (number m (λ p. get_or C (p * m + i % m) 0)) 0)) (m * m)
  pub row_is : d ≡ tabulate (λ p. digit p (bit_xor (get_or images (number m (λ q. get_or c q 0)) 0) x)) m
