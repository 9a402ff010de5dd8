-- Laws of the quick reading's recursion: the parts that are lent for a half, and the word put together from its halves.
use Rattle.std.specs.Prelude.{◌≡◌, refl, List, [], ◌∷◌, ◌++◌, ℕ, zero, suc, ◌+◌, ◌-◌, ◌^◌, ◌/◌, ◌≤◌, ◌<◌, ℤ, pos, length, get_or, set, take, drop}
use Rattle.std.proofs.Common.{ap, ap₂, sym, ◌∙◌, subst, arith, suc-ne-zero, length-drop, length-append, length-take-le, take_at, drop_at, take-take}
use Rattle.std.proofs.Common.{get_or-take, get_or-drop, to_z, of_z, to_z-of_z}
use Rattle.std.specs.Int.{w32}
use borrow.Rule.Slice.PartMut.{mid_of, put_mid}
use Rattle.numbers.specs.Halves.{Halved, halved}
use Rattle.numbers.specs.Lent.{lent_to, back_to, lent_from, back_from}
use Rattle.numbers.specs.PartsLaws.{fits_size}
use Rattle.words.specs.Bits.{Bits, xors}
use Rattle.words.specs.TransformLaws.{bits_append}
use Rattle.decoding.specs.Readings.{sizes, sum_limit}
use Rattle.decoding.specs.Quick.{lower_row, upper_row, decide, quick_word}
use Rattle.decoding.specs.StepLaws.{entry-sizes, length-lower_row, length-upper_row, sizes-lower_row, sizes-upper_row}
use Rattle.decoding.specs.QuickLaws.{length_quick, bits_quick}
use Rattle.bit_rows.specs.Fold.{folded}
use Rattle.rows.specs.Rows.{row_of, with_row}
use Rattle.rows.specs.RowLaws.{length-row_of}
use Rattle.rows.specs.PlaceLaws.{length-with_row, behind_with_row, row_of-with_row, row_of-front}
use Rattle.quick.specs.Engine.{Sized, Ready, HalfReady}

-- half of a word's length
abbrev pub mid : List ℕ → ℕ
mid word = length word / 2

-- ---- a single position
pub one_word : (m : ℕ) (kinds word : List ℕ) (l : List ℤ) (b : ℕ) → m ≡ 0 → length word ≡ 2 ^ m
    → b ≡ decide (get_or kinds 0 0) (get_or l 0 (pos 0)) → set word 0 b ≡ quick_word m kinds l
unfolding quick_word
one_word zero kinds [] l b z e f = absurd (omega arith)
one_word zero kinds (w ∷ []) l b z e f = ap (λ (n : ℕ). n ∷ []) f
one_word zero kinds (w ∷ v ∷ word) l b z e f = absurd (omega arith)
one_word (suc m) kinds word l b z e f = absurd (suc-ne-zero m z)

-- ---- the parts that are lent for a half
-- its row is in the part as it is in the row
row_of-part : (h n : ℕ) (rows : List ℤ) → n ≡ h + h → row_of h (take n rows) ≡ row_of h rows
row_of-part h n rows e =
    row_of-front h (take n rows) ∙ ap (drop h) (take-take (h + h) n rows (omega arith)) ∙ sym (row_of-front h rows)

module _ (m : ℕ) (rows : List ℤ) (kinds word : List ℕ) (r : HalfReady m rows kinds word) where
  pub lengths : Halved (length word) m
  lengths = halved (length word) m r.long_word (λ e. omega (arith, r.above))

  same_row : row_of (2 ^ (m - 1)) (mid_of 0 (length word - 0) rows) ≡ row_of (2 ^ (m - 1)) rows
  same_row =
      ap (row_of (2 ^ (m - 1))) (lent_to (length word) rows) ∙ row_of-part (2 ^ (m - 1)) (length word) rows (omega (arith, lengths.half, lengths.whole))

  long_part : length (mid_of 0 (length word - 0) rows) ≡ length word
  long_part = ap length (lent_to (length word) rows) ∙ length-take-le (length word) rows (omega (arith, r.room, r.long_word))

  part-ready : (ks w : List ℕ) → length ks ≡ mid word → length w ≡ mid word → Ready (m - 1) (mid_of 0 (length word - 0) rows) ks w
  part-ready ks w e f =
      let long : length (mid_of 0 (length word - 0) rows) ≡ 2 ^ (m - 1) + 2 ^ (m - 1) = long_part ∙ omega (arith, lengths.half, lengths.whole) in
      record {
        long_rows = long;
        sized =
            record {
              long_kinds = e ∙ lengths.half;
              long_word = f ∙ lengths.half;
              long_row = length-row_of (2 ^ (m - 1)) (mid_of 0 (length word - 0) rows) (omega (arith, long));
              small = rw same_row r.small;
            };
      }

  pub first-ready : Ready (m - 1) (mid_of 0 (length word - 0) rows) (mid_of 0 (mid word - 0) kinds) (mid_of 0 (mid word - 0) word)
  first-ready =
      part-ready (mid_of 0 (mid word - 0) kinds) (mid_of 0 (mid word - 0) word)
      (ap length (lent_to (mid word) kinds) ∙ length-take-le (mid word) kinds (omega (arith, r.long_kinds, r.long_word)))
      (ap length (lent_to (mid word) word) ∙ length-take-le (mid word) word (omega arith))

  pub second-ready :
      Ready (m - 1) (mid_of 0 (length word - 0) rows) (mid_of (mid word) (length kinds - mid word) kinds) (mid_of (mid word) (length word - mid word) word)
  second-ready =
      part-ready (mid_of (mid word) (length kinds - mid word) kinds) (mid_of (mid word) (length word - mid word) word)
      (ap length (lent_from (mid word) kinds) ∙ length-drop (mid word) kinds ∙ omega (arith, r.long_kinds, r.long_word, lengths.whole))
      (ap length (lent_from (mid word) word) ∙ length-drop (mid word) word ∙ omega (arith, lengths.whole))

  -- and what comes back
  pub behind_kept : (q : List ℤ) → length q ≡ length (mid_of 0 (length word - 0) rows) → drop (2 ^ m) (put_mid 0 (length word - 0) rows q) ≡ drop (2 ^ m) rows
  behind_kept q e =
      let long : length q ≡ 2 ^ m = e ∙ long_part ∙ r.long_word in
      ap (drop (2 ^ m)) (back_to (length word) rows q) ∙ drop_at q (drop (length word) rows) (2 ^ m) long ∙ ap (λ (k : ℕ). drop k rows) r.long_word

  pub first_back : (w : List ℕ) → w ≡ quick_word (m - 1) (mid_of 0 (mid word - 0) kinds) (row_of (2 ^ (m - 1)) (mid_of 0 (length word - 0) rows))
      → put_mid 0 (mid word - 0) word w ≡ quick_word (m - 1) (take (2 ^ (m - 1)) kinds) (row_of (2 ^ (m - 1)) rows) ++ drop (2 ^ (m - 1)) word
  first_back w e =
      back_to (mid word) word w
      ∙ ap (λ (x : List ℕ). x ++ drop (mid word) word) (e ∙ ap₂ (quick_word (m - 1)) (lent_to (mid word) kinds) same_row)
      ∙ ap (λ (k : ℕ). quick_word (m - 1) (take k kinds) (row_of (2 ^ (m - 1)) rows) ++ drop k word) lengths.half

  pub second_back : (w : List ℕ)
      → w ≡ quick_word (m - 1) (mid_of (mid word) (length kinds - mid word) kinds) (row_of (2 ^ (m - 1)) (mid_of 0 (length word - 0) rows))
      → put_mid (mid word) (length word - mid word) word w
      ≡ take (2 ^ (m - 1)) word ++ quick_word (m - 1) (drop (2 ^ (m - 1)) kinds) (row_of (2 ^ (m - 1)) rows)
  second_back w e =
      back_from (mid word) word w
      ∙ ap (λ (x : List ℕ). take (mid word) word ++ x) (e ∙ ap₂ (quick_word (m - 1)) (lent_from (mid word) kinds) same_row)
      ∙ ap (λ (k : ℕ). take k word ++ quick_word (m - 1) (drop k kinds) (row_of (2 ^ (m - 1)) rows)) lengths.half

-- ---- the word of a row l, put together from its halves' words
abbrev pub lower_word : ℕ → List ℕ → List ℤ → List ℕ
lower_word m ks l = quick_word (m - 1) (take (2 ^ (m - 1)) ks) (lower_row (2 ^ (m - 1)) l)

abbrev pub upper_word : ℕ → List ℕ → List ℤ → List ℕ → List ℕ
upper_word m ks l a = quick_word (m - 1) (drop (2 ^ (m - 1)) ks) (upper_row (2 ^ (m - 1)) l a)

quick_halves : (m : ℕ) (ks : List ℕ) (l : List ℤ) → (m ≡ 0 → ⊥)
    → xors (lower_word m ks l) (upper_word m ks l (lower_word m ks l)) ++ upper_word m ks l (lower_word m ks l) ≡ quick_word m ks l
unfolding quick_word
quick_halves zero ks l more = absurd (more refl)
quick_halves (suc p) ks l more = let e : suc p - 1 ≡ p = omega arith in rw e

-- v is the two halves' words, still to be folded
pub record Foldable (m : ℕ) (kinds word : List ℕ) (l : List ℤ) (v : List ℕ) : Type 0 where
  pub long : length v ≡ mid word + mid word
  pub bits : Bits v
  pub gives : folded (mid word) v ≡ quick_word m kinds l

module _ (m : ℕ) (kinds word : List ℕ) (l : List ℤ) (s : Sized m kinds word l) (more : m ≡ 0 → ⊥) where
  pub halves : Halved (length word) m
  halves = halved (length word) m s.long_word more

  pub row_halves : length l ≡ mid word + mid word
  row_halves = omega (arith, s.long_row, s.long_word, halves.whole)

  -- a half's row x is in its place
  placed_ready : (d x : List ℤ) (w : List ℕ) → length word ≤ length d → length x ≡ mid word → sizes x ≤ sizes l → length w ≡ length word
      → HalfReady m (with_row (mid word) d x) kinds w
  placed_ready d x w room e b f =
      let fits : mid word + mid word ≤ length d = omega (arith, halves.whole) in
      record {
        above = omega arith;
        room = omega (arith, length-with_row (mid word) d x fits e, s.long_word);
        long_kinds = s.long_kinds;
        long_word = f ∙ s.long_word;
        small =
            subst (λ (k : ℕ). sizes (row_of k (with_row (mid word) d x)) < sum_limit) halves.half
            (rw (row_of-with_row (mid word) d x fits e) (omega (arith, s.small)));
      }

  module _ (d : List ℤ) (room : length word ≤ length d) (rows : List ℤ) (is : rows ≡ with_row (mid word) d (lower_row (mid word) l)) where
    pub lower-ready : HalfReady m rows kinds word
    lower-ready =
        rw is (placed_ready d (lower_row (mid word) l) word room (length-lower_row (mid word) l row_halves) (sizes-lower_row (mid word) l) refl)

    lower-row : row_of (2 ^ (m - 1)) rows ≡ lower_row (2 ^ (m - 1)) l
    lower-row =
        subst (λ (k : ℕ). row_of k rows ≡ lower_row k l) halves.half
        (ap (row_of (mid word)) is
        ∙ row_of-with_row (mid word) d (lower_row (mid word) l) (omega (arith, halves.whole)) (length-lower_row (mid word) l row_halves))

    pub lower-back : (w : List ℕ) → w ≡ quick_word (m - 1) (take (2 ^ (m - 1)) kinds) (row_of (2 ^ (m - 1)) rows) ++ drop (2 ^ (m - 1)) word
        → take (mid word) w ≡ lower_word m kinds l
    lower-back w e =
        let long = length_quick (m - 1) (take (2 ^ (m - 1)) kinds) (lower_row (2 ^ (m - 1)) l) in
        rw (e, lower-row, halves.half) (take_at (lower_word m kinds l) (drop (2 ^ (m - 1)) word) (2 ^ (m - 1)) long)

  -- the lower half's word a is in front
  module _ (w : List ℕ) (long : length w ≡ length word) (a : take (mid word) w ≡ lower_word m kinds l) where
    pub upper_asked : mid word ≤ length w
    upper_asked = omega (arith, halves.whole)

    long_upper : length (upper_row (mid word) l (take (mid word) w)) ≡ mid word
    long_upper = length-upper_row (mid word) l row_halves (take (mid word) w) (length-take-le (mid word) w upper_asked)

    module _ (d : List ℤ) (room : length word ≤ length d) (rows : List ℤ) (is : rows ≡ with_row (mid word) d (upper_row (mid word) l (take (mid word) w))) where
      pub upper-ready : HalfReady m rows kinds w
      upper-ready =
          rw is (placed_ready d (upper_row (mid word) l (take (mid word) w)) w room long_upper (sizes-upper_row (mid word) l (take (mid word) w)) long)

      upper-row : row_of (2 ^ (m - 1)) rows ≡ upper_row (2 ^ (m - 1)) l (lower_word m kinds l)
      upper-row =
          subst (λ (k : ℕ). row_of k rows ≡ upper_row k l (lower_word m kinds l)) halves.half
          (ap (row_of (mid word)) is
          ∙ row_of-with_row (mid word) d (upper_row (mid word) l (take (mid word) w)) (omega (arith, halves.whole)) long_upper
          ∙ ap (upper_row (mid word) l) a)

      module _ (v : List ℕ) (e : v ≡ take (2 ^ (m - 1)) w ++ quick_word (m - 1) (drop (2 ^ (m - 1)) kinds) (row_of (2 ^ (m - 1)) rows)) where
        both : v ≡ lower_word m kinds l ++ upper_word m kinds l (lower_word m kinds l)
        both =
            e
            ∙ ap₂ (λ (x : List ℕ) (r : List ℤ). x ++ quick_word (m - 1) (drop (2 ^ (m - 1)) kinds) r)
            (ap (λ (k : ℕ). take k w) (sym halves.half) ∙ a) upper-row

        long_lower : length (lower_word m kinds l) ≡ mid word
        long_lower = length_quick (m - 1) (take (2 ^ (m - 1)) kinds) (lower_row (2 ^ (m - 1)) l) ∙ sym halves.half

        long_upper_word : length (upper_word m kinds l (lower_word m kinds l)) ≡ mid word
        long_upper_word = length_quick (m - 1) (drop (2 ^ (m - 1)) kinds) (upper_row (2 ^ (m - 1)) l (lower_word m kinds l)) ∙ sym halves.half

        pub upper-back : Foldable m kinds word l v
        upper-back =
            let x = lower_word m kinds l in
            let y = upper_word m kinds l x in
            let bits_x = bits_quick (m - 1) (take (2 ^ (m - 1)) kinds) (lower_row (2 ^ (m - 1)) l) in
            let bits_y = bits_quick (m - 1) (drop (2 ^ (m - 1)) kinds) (upper_row (2 ^ (m - 1)) l x) in
            record {
              long = ap length both ∙ length-append x y ∙ omega (arith, long_lower, long_upper_word);
              bits = subst Bits (sym both) (bits_append x y bits_x bits_y);
              gives = ap (folded (mid word)) both ∙ rw (take_at x y (mid word) long_lower, drop_at x y (mid word) long_lower) (quick_halves m kinds l more);
            }

-- ---- the same if l is the row of 2^m sums of the scratch array
-- after the first half is read: q is the array, w the word
pub record FirstRead (m : ℕ) (rows : List ℤ) (kinds word : List ℕ) (q : List ℤ) (w : List ℕ) : Type 0 where
  pub long_rows : length q ≡ length rows
  pub row : row_of (mid word + mid word) q ≡ row_of (2 ^ m) rows
  pub long : length w ≡ length word
  pub lower : take (mid word) w ≡ lower_word m kinds (row_of (2 ^ m) rows)

module _ (m : ℕ) (rows : List ℤ) (kinds word : List ℕ) (r : Ready m rows kinds word) where
  pub one_value : m ≡ 0 → to_z w32 (of_z w32 (get_or rows 1 (pos 0))) ≡ get_or (row_of (2 ^ m) rows) 0 (pos 0)
  one_value z =
      let e : get_or (row_of (2 ^ m) rows) 0 (pos 0) ≡ get_or rows 1 (pos 0) =
      ap (λ (k : ℕ). get_or (row_of (2 ^ k) rows) 0 (pos 0)) z ∙ get_or-take 1 (drop 1 rows) 0 (pos 0) (omega arith) ∙ get_or-drop 1 rows 0 (pos 0) in
      rw (← e) (to_z-of_z {w = w32} (fits_size (get_or (row_of (2 ^ m) rows) 0 (pos 0)) (omega (arith, entry-sizes (row_of (2 ^ m) rows) 0, r.sized.small))))

  module _ (more : m ≡ 0 → ⊥) where
    whole : mid word + mid word ≡ 2 ^ m
    whole = omega (arith, (halves m kinds word (row_of (2 ^ m) rows) r.sized more).whole, r.sized.long_word)

    same : row_of (mid word + mid word) rows ≡ row_of (2 ^ m) rows
    same = ap (λ (k : ℕ). row_of k rows) whole

    pub lower_asked : (mid word + mid word + (mid word + mid word) ≤ length rows)
        × (sizes (row_of (mid word + mid word) rows) < sum_limit)
    lower_asked = (omega (arith, whole, r.long_rows), rw same r.sized.small)

    room : length word ≤ length rows
    room = omega (arith, r.long_rows, r.sized.long_word)

    module _ (s : List ℤ) (is : s ≡ with_row (mid word) rows (lower_row (mid word) (row_of (mid word + mid word) rows))) where
      lower-is : s ≡ with_row (mid word) rows (lower_row (mid word) (row_of (2 ^ m) rows))
      lower-is = rw (← same) is

      pub first_asked : HalfReady m s kinds word
      first_asked = lower-ready m kinds word (row_of (2 ^ m) rows) r.sized more rows room s lower-is

      pub first_read : (q : List ℤ) (w : List ℕ) → length q ≡ length s → drop (2 ^ m) q ≡ drop (2 ^ m) s → length w ≡ length word
          → w ≡ quick_word (m - 1) (take (2 ^ (m - 1)) kinds) (row_of (2 ^ (m - 1)) s) ++ drop (2 ^ (m - 1)) word → FirstRead m rows kinds word q w
      first_read q w long behind f e =
          let h = mid word in
          let x = lower_row h (row_of (h + h) rows) in
          let long_x = length-lower_row h (row_of (h + h) rows) (length-row_of (h + h) rows lower_asked.0) in
          let fits : h + h ≤ length rows = omega (arith, lower_asked.0) in
          record {
            long_rows = long ∙ ap length is ∙ length-with_row h rows x fits long_x;
            row =
                ap (λ (k : ℕ). row_of k q) whole
                ∙ ap (take (2 ^ m))
                (behind ∙ ap (drop (2 ^ m)) is ∙ ap (λ (k : ℕ). drop k (with_row h rows x)) (sym whole) ∙ behind_with_row h rows x fits long_x)
                ∙ ap (λ (k : ℕ). take (2 ^ m) (drop k rows)) whole;
            long = f;
            lower = lower-back m kinds word (row_of (2 ^ m) rows) r.sized more rows room s lower-is w e;
          }

    module _ (q : List ℤ) (w : List ℕ) (f : FirstRead m rows kinds word q w) where
      pub upper_row_asked : (mid word + mid word + (mid word + mid word) ≤ length q) × (mid word ≤ length w)
          × (sizes (row_of (mid word + mid word) q) < sum_limit)
      upper_row_asked = (omega (arith, lower_asked.0, f.long_rows), omega (arith, f.long), rw f.row r.sized.small)

      module _ (s : List ℤ) (is : s ≡ with_row (mid word) q (upper_row (mid word) (row_of (mid word + mid word) q) (take (mid word) w))) where
        upper_is : s ≡ with_row (mid word) q (upper_row (mid word) (row_of (2 ^ m) rows) (take (mid word) w))
        upper_is = rw (← f.row) is

        room-again : length word ≤ length q
        room-again = omega (arith, room, f.long_rows)

        pub second_asked : HalfReady m s kinds w
        second_asked = upper-ready m kinds word (row_of (2 ^ m) rows) r.sized more w f.long f.lower q room-again s upper_is

        pub second-read : (v : List ℕ) → v ≡ take (2 ^ (m - 1)) w ++ quick_word (m - 1) (drop (2 ^ (m - 1)) kinds) (row_of (2 ^ (m - 1)) s)
            → Foldable m kinds word (row_of (2 ^ m) rows) v
        second-read v e = upper-back m kinds word (row_of (2 ^ m) rows) r.sized more w f.long f.lower q room-again s upper_is v e
