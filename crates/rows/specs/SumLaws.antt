-- Laws of a row of sums of any kind, as a row of whole numbers: what a pass reads and what it stores. The laws of rows do the rest.
use Rattle.std.specs.Prelude.{◌≡◌, List, map, ℕ, ◌+◌, ◌^◌, ◌≤◌, ◌<◌, ℤ, pos, nat_abs, length, get_or, set, take}
use Rattle.std.proofs.Common.{ap, sym, ◌∙◌, arith, length-take-le}
use Rattle.std.proofs.lemmas.List.{length-map, map-id, map-set, get_or-map}
use Rattle.std.proofs.Math.Seq.{paste}
use Rattle.decoding.specs.Readings.{sizes, sum_limit}
use Rattle.decoding.specs.Quick.{lower, upper, lower_row, upper_row}
use Rattle.decoding.specs.StepLaws.{length-lower_row, length-upper_row}
use Rattle.rows.specs.Rows.{row_of}
use Rattle.rows.specs.RowLaws.{Pair, pair-sizes, length-row_of, row-entry, lower-turn, upper-turn}

-- ---- whole numbers as they are
pub same_numbers : (l : List ℤ) → l ≡ map (λ (z : ℤ). z) l
same_numbers l = sym (map-id l)

pub short_pair : (l : List ℤ) (x y : ℤ) → Unit {0} → nat_abs x ≤ 2 ^ 15 → nat_abs y ≤ 2 ^ 15 → nat_abs x + nat_abs y ≤ sizes l
    → nat_abs x + nat_abs y < sum_limit
short_pair l x y _ h k _ = omega arith

-- ---- the whole number that a sum or a reading is, and those of a row
module _ {X : Type 0} (whole : X → ℤ) (wholes : List X → List ℤ) (each : (l : List X) → wholes l ≡ map whole l) where
  pub length-wholes : (l : List X) → length (wholes l) ≡ length l
  length-wholes l = ap length (each l) ∙ length-map l whole

  pub wholes-set : (l : List X) (i : ℕ) (x : X) → wholes (set l i x) ≡ set (wholes l) i (whole x)
  wholes-set l i x = each (set l i x) ∙ map-set whole l i x ∙ ap (λ (k : List ℤ). set k i (whole x)) (sym (each l))

  -- an entry, whatever the default for missing ones
  pub entry-read : (l : List X) (i : ℕ) (none : X) → i < length l → whole (get_or l i none) ≡ get_or (wholes l) i (pos 0)
  entry-read l i none h = sym (get_or-map whole l i none (pos 0) h) ∙ ap (λ (k : List ℤ). get_or k i (pos 0)) (sym (each l))

  pub wholes-entry : (l : List X) (i : ℕ) (x : X) → x ≡ get_or l i x → i < length l → whole x ≡ get_or (wholes l) i (pos 0)
  wholes-entry l i x is h = ap whole is ∙ entry-read l i x h

  -- the row of 2h sums is that long
  pub above_long : (h : ℕ) (d : List X) → h + h + (h + h) ≤ length d → length (row_of (h + h) (wholes d)) ≡ h + h
  above_long h d room = length-row_of (h + h) (wholes d) (rw (length-wholes d) room)

  -- any entry i of the row above, with j sums of the row r made in the array d
  above-read : (d s : List X) (r : List ℤ) (h j : ℕ) → h + h + (h + h) ≤ length d → length r ≡ h → wholes s ≡ paste (wholes d) h r j
      → length s ≡ length d → j < h → (none : X) (i : ℕ) → i < h + h
      → whole (get_or s (h + h + i) none) ≡ get_or (row_of (h + h) (wholes d)) i (pos 0)
  above-read d s r h j room long is same more none i below =
      entry-read s (h + h + i) none (omega arith) ∙ row-entry (wholes d) r (wholes s) h j i (rw (length-wholes d) room) long is more below

  -- the pairs that are read: of that row above, and of a row l of 2h sums
  pub row-pair : (d s : List X) (r : List ℤ) (h j : ℕ) → h + h + (h + h) ≤ length d → length r ≡ h → wholes s ≡ paste (wholes d) h r j
      → length s ≡ length d → j < h → (none : X)
      → Pair h j (row_of (h + h) (wholes d)) (whole (get_or s (h + h + j) none)) (whole (get_or s (h + h + (h + j)) none))
  row-pair d s r h j room long is same more none =
      let read = above-read d s r h j room long is same more none in
      record { first = read j (omega arith); second = read (h + j) (omega arith) }

  pub pair-of-row : (l : List X) (h j : ℕ) → length l ≡ h + h → j < h → (none : X)
      → Pair h j (wholes l) (whole (get_or l j none)) (whole (get_or l (h + j) none))
  pair-of-row l h j long more none = record { first = entry-read l j none (omega arith); second = entry-read l (h + j) none (omega arith) }

  -- what is stored, whichever row l of 2h whole numbers is read
  module _ (d s : List X) (l : List ℤ) (h j : ℕ) (x y : ℤ) (v : X) (room : h + h ≤ length d) (long : length l ≡ h + h) (more : j < h)
      (pair : Pair h j l x y) where
    pub lower-stored : wholes s ≡ paste (wholes d) h (lower_row h l) j → whole v ≡ lower x y
        → wholes (set s (h + j) v) ≡ paste (wholes d) h (lower_row h l) (j + 1)
    lower-stored is e =
        wholes-set s (h + j) v ∙ lower-turn (wholes d) (wholes s) l h j x y (whole v) (rw (length-wholes d) room) long more pair is e

    pub upper-stored : (w : List ℕ) → h ≤ length w → wholes s ≡ paste (wholes d) h (upper_row h l (take h w)) j → whole v ≡ upper x y (get_or w j 0)
        → wholes (set s (h + j) v) ≡ paste (wholes d) h (upper_row h l (take h w)) (j + 1)
    upper-stored w k is e =
        wholes-set s (h + j) v ∙ upper-turn (wholes d) (wholes s) l h j x y (whole v) (rw (length-wholes d) room) long more pair w k is e

  -- ---- x and y, read at h + h + j and h + h + (h + j) of the array s, which is d with j sums of a row made
  module _ (d s : List X) (h j : ℕ) (x y : X) (room : h + h + (h + h) ≤ length d) (same : length s ≡ length d) (more : j < h)
      (first : x ≡ get_or s (h + h + j) x) (second : y ≡ get_or s (h + h + (h + j)) y) where
    abbrev pub above : List ℤ
    above = row_of (h + h) (wholes d)

    entry : (r : List ℤ) → length r ≡ h → wholes s ≡ paste (wholes d) h r j → (i : ℕ) (z : X) → z ≡ get_or s (h + h + i) z → i < h + h
        → whole z ≡ get_or above i (pos 0)
    entry r long is i z e below = ap whole e ∙ above-read d s r h j room long is same more z i below

    pub pair : (r : List ℤ) → length r ≡ h → wholes s ≡ paste (wholes d) h r j → Pair h j above (whole x) (whole y)
    pair r long is = record { first = entry r long is j x first (omega arith); second = entry r long is (h + j) y second (omega arith) }

    lower-pair : wholes s ≡ paste (wholes d) h (lower_row h above) j → Pair h j above (whole x) (whole y)
    lower-pair = pair (lower_row h above) (length-lower_row h above (above_long h d room))

    pub lower-asked : wholes s ≡ paste (wholes d) h (lower_row h above) j → sizes above < sum_limit
        → (nat_abs (whole x) < sum_limit) × (nat_abs (whole y) < sum_limit)
    lower-asked is small =
        let both = pair-sizes _ _ _ _ _ (lower-pair is) more in
        (omega arith, omega arith)

    pub lower-more : (v : X) → wholes s ≡ paste (wholes d) h (lower_row h above) j → whole v ≡ lower (whole x) (whole y)
        → wholes (set s (h + j) v) ≡ paste (wholes d) h (lower_row h above) (j + 1)
    lower-more v is e = lower-stored d s above h j _ _ v (omega arith) (above_long h d room) more (lower-pair is) is e

    module _ (w : List ℕ) (word : h ≤ length w) where
      upper-pair : wholes s ≡ paste (wholes d) h (upper_row h above (take h w)) j → Pair h j above (whole x) (whole y)
      upper-pair = pair (upper_row h above (take h w)) (length-upper_row h above (above_long h d room) (take h w) (length-take-le h w word))

      pub upper-asked : wholes s ≡ paste (wholes d) h (upper_row h above (take h w)) j → sizes above < sum_limit
          → nat_abs (whole x) + nat_abs (whole y) < sum_limit
      upper-asked is small = omega (arith, pair-sizes _ _ _ _ _ (upper-pair is) more)

      pub upper-more : (v : X) → wholes s ≡ paste (wholes d) h (upper_row h above (take h w)) j
          → whole v ≡ upper (whole x) (whole y) (get_or w j 0)
          → wholes (set s (h + j) v) ≡ paste (wholes d) h (upper_row h above (take h w)) (j + 1)
      upper-more v is e = upper-stored d s above h j _ _ v (omega arith) (above_long h d room) more (upper-pair is) w word is e

-- ---- sums x and y of the readings p and q, which are read at j and h + j of the row r
module _ {R : Type 0} (read : R → ℤ) (reads : List R → List ℤ) (each : (l : List R) → reads l ≡ map read l) where
  pub top-pair : (r : List R) (h j : ℕ) (p q : R) (x y : ℤ) → length r ≡ h + h → j < h → p ≡ get_or r j p → q ≡ get_or r (h + j) q
      → x ≡ read p → y ≡ read q → Pair h j (reads r) x y
  top-pair r h j p q x y long more first second is_first is_second =
      record {
        first = is_first ∙ ap read first ∙ (pair-of-row read reads each r h j long more p).first;
        second = is_second ∙ ap read second ∙ (pair-of-row read reads each r h j long more q).second;
      }
