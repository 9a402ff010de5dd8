-- What is moved and put is what the definitions of maps say: reordered rows, the undo map, the product.
use Rattle.std.specs.Prelude.{◌≡◌, refl, Bool, true, false, cond, length, eqb}
use Rattle.std.proofs.Math.Path.{ap, sym}
use Rattle.std.proofs.Common.{ap₂, ◌∙◌, ⊎_elim, arith, le_refl, add-zero, mul-zero, div-lt_iff_lt-mul, pow_mono, lt-ltb, le-ltb}
use mathlib.Core.List.{List, []}
use Prim.Native.Nat.{ℕ, zero, suc, ◌+◌, ◌*◌, ◌^◌, ◌%◌, ◌/◌, ◌≤◌, ◌<◌}
use Rattle.std.proofs.Math.Nat.{mod-lt}
use Rattle.std.proofs.Math.ListN.{get_or}
use Rattle.std.proofs.Math.Pow.{pow-lt}
use Rattle.std.specs.Int.Bits.{bit_xor}
use Rattle.numbers.specs.Choice.{lt_or_le}
use Rattle.numbers.specs.Sums.{total, tabulate}
use Rattle.numbers.specs.SumsLaws.{total_same, total-zero, tabulate_same, get_d_tabulate}
use Rattle.words.specs.Bits.{Bits, digit}
use Rattle.code.specs.Sound.{largest_m}
use Rattle.code.specs.declared.Refusal.TheVariants.{Map}
use Rattle.code.specs.Entries.{first_bad_bit}
use Rattle.code.specs.EntriesLaws.{good_bits}
use Rattle.maps.specs.Maps.{number, image_bit, image, reordered, product_table, product_row, Apart, where_is, all_apart, can_undo, undo_table, undo_row}
use Rattle.maps.specs.NumberLaws.{number-below, digit-number, number_same}
use Rattle.maps.specs.ImageLaws.{image_bit_lem, image-below, digit-image, image_same}
use Rattle.maps.proofs.CountLaws.{where_met}
use Rattle.maps.proofs.UndoLaws.{image_added, undoable_apart, undo_after}
use Rattle.maps.proofs.TestLaws.{tested, can_undo_lem}
use Rattle.images.specs.Images.{is_map, Shows, Placed, Taken, NotTaken, Moves, moved, UndoPut, ProductPut}
use Rattle.images.specs.ImagesLaws.{number_small, image-row}
use Rattle.images.specs.ArrayLaws.{some_side}

-- ---- a map by the test
pub record BitsMap (m : ℕ) (A b : List ℕ) : Type 0 where
  pub table_bits : Bits A
  pub row_bits : Bits b
  pub can : can_undo m A ≡ true

module _ (m : ℕ) (A b : List ℕ) where
  pub table-bad : first_bad_bit A < length A → is_map m A b ≡ false
  table-bad h = rw (lt-ltb (first_bad_bit A) (length A) h)

  module _ (good : length A ≤ first_bad_bit A) where
    pub row-bad : first_bad_bit b < length b → is_map m A b ≡ false
    row-bad h = rw (le-ltb (first_bad_bit A) (length A) good, lt-ltb (first_bad_bit b) (length b) h)

    pub both_good : length b ≤ first_bad_bit b → is_map m A b ≡ can_undo m A
    both_good h = rw (le-ltb (first_bad_bit A) (length A) good, le-ltb (first_bad_bit b) (length b) h)

  not_both : (x : Bool) → x ≡ false → x ≡ true → BitsMap m A b
  not_both x e f = let z : ◌≡◌ {A = ℕ} 0 1 = cc in absurd (omega arith)

  pub bits_map : is_map m A b ≡ true → BitsMap m A b
  bits_map e =
      ⊎_elim
      (λ h. not_both (is_map m A b) (table-bad h) e)
      (λ h.
      ⊎_elim
      (λ k. not_both (is_map m A b) (row-bad h k) e)
      (λ k. record { table_bits = good_bits A h; row_bits = good_bits b k; can = sym (both_good h k) ∙ e })
      (lt_or_le (first_bad_bit b) (length b)))
      (lt_or_le (first_bad_bit A) (length A))

-- ---- the images of all positions, and their places
-- f and g agree below n
apart_same : (f g : ℕ → ℕ) (n : ℕ) → ((i : ℕ) → i < n → f i ≡ g i) → all_apart f n ≡ all_apart g n
apart_same f g n same =
    ⊎_elim
    (λ t.
    ⊎_elim (λ u. t.0 ∙ sym u.0)
    (λ u. absurd (u.1 (λ i j h k e. t.1 i j h k (same i h ∙ e ∙ sym (same j k)))))
    (tested g n))
    (λ t.
    ⊎_elim (λ u. absurd (t.1 (λ i j h k e. u.1 i j h k (sym (same i h) ∙ e ∙ same j k))))
    (λ u. t.0 ∙ sym u.0)
    (tested g n))
    (tested f n)

where_same : (f g : ℕ → ℕ) (v n : ℕ) → ((i : ℕ) → i < n → f i ≡ g i) → where_is f v n ≡ where_is g v n
unfolding where_is
where_same f g v zero same = refl
where_same f g v (suc n) same =
    ap₂ (λ (x i : ℕ). cond (eqb x v) n i) (same n (le_refl (suc n))) (where_same f g v n (λ i h. same i (omega arith)))

module _ (m : ℕ) (A b images places : List ℕ) where
  module _ (n : ℕ) (is_n : n ≡ 2 ^ m) (table : length A ≤ first_bad_bit A) (row : length b ≤ first_bad_bit b)
      (s : Shows (image m A []) (2 ^ m) images) where
    tests_apart : all_apart (λ j. get_or images j 0) n ≡ is_map m A b
    unfolding can_undo
    tests_apart =
        let f : ℕ → ℕ = λ j. get_or images j 0 in
        ap (all_apart f) is_n ∙ apart_same f (image m A []) (2 ^ m) s ∙ sym (both_good m A b table row)

    pub taken : Placed n images places → true ≡ all_apart (λ j. get_or images j 0) n → Taken m A b images places
    taken p is =
        let f : ℕ → ℕ = λ j. get_or images j 0 in
        record {
          good = sym (is ∙ tests_apart);
          images_are = s;
          places_are = λ v h. p.is_place v h ∙ ap (where_is f v) is_n ∙ where_same f (image m A []) v (2 ^ m) s;
        }

    pub not_apart_taken : false ≡ all_apart (λ j. get_or images j 0) n → NotTaken m A b Map
    not_apart_taken is = record { bad = sym (is ∙ tests_apart); says_so = refl }

-- ---- a row as a table of one column
pub row_number : (m : ℕ) (b : List ℕ) → number m (λ p. get_or b (p * 1 + 0) 0) ≡ number m (λ p. get_or b p 0)
row_number m b =
    number_same m (λ p. get_or b (p * 1 + 0) 0) (λ p. get_or b p 0)
    (λ p h. let e : p * 1 + 0 ≡ p = omega arith in ap (λ (i : ℕ). get_or b i 0) e)

-- ---- reordered rows
module _ (m : ℕ) (A b : List ℕ) (bits : Bits b) (images : List ℕ) (shown : Shows (image m A []) (2 ^ m) images)
    (x : ℕ) (is_row : x ≡ number m (λ p. get_or b p 0)) where
  moved-image : (j : ℕ) → j < 2 ^ m → bit_xor (get_or images j 0) x ≡ image m A b j
  moved-image j h = ap₂ bit_xor (shown j h) is_row ∙ image-row m A b bits j

  module _ {T : Type 0} (from : List T) (long : length from ≡ 2 ^ m) where
    pub moves_map : (to : List T) → length to ≡ 2 ^ m → m ≤ largest_m → length images ≡ 256 → Moves images x from to
    moves_map to e h k = record {
      room = e ∙ sym long;
      each = omega (arith, pow_mono h);
      within = λ j l. omega (arith, moved-image j (omega arith), image-below m A b j);
    }

    pub moved-map : (d : T) → moved d x images from ≡ reordered d m A b from
    unfolding reordered
    moved-map d =
        let f : ℕ → T = λ j. get_or from (bit_xor (get_or images j 0) x) d in
        ap (tabulate f) long ∙ tabulate_same f (λ j. get_or from (image m A b j) d) (2 ^ m) (λ j h. ap (λ (i : ℕ). get_or from i d) (moved-image j h))

-- ---- the undo map
-- a table times no row is 0
no_row : (m : ℕ) (U : List ℕ) (p : ℕ) → p < m → get_or (product_row m U [] []) p 0 ≡ 0
unfolding product_row image_bit
no_row m U p h =
    get_d_tabulate (image_bit m U [] (λ q. get_or {A = ℕ} [] q 0)) m p 0 h
    ∙ ap (λ (s : ℕ). (s + 0) % 2)
    (total_same (λ q. get_or U (p * m + q) 0 * 0) (λ q. 0) m (λ q l. mul-zero (get_or U (p * m + q) 0)) ∙ total-zero m)

module _ (m : ℕ) (A b : List ℕ) (small : m ≤ largest_m) (places : List ℕ) (shown : Shows (λ v. where_is (image m A []) v (2 ^ m)) 256 places) where
  undone_table : tabulate (λ i. digit (i / m) (get_or places (2 ^ (i % m)) 0)) (m * m) ≡ undo_table m A
  unfolding undo_table
  undone_table =
      tabulate_same (λ i. digit (i / m) (get_or places (2 ^ (i % m)) 0)) (λ i. digit (i / m) (where_is (image m A []) (2 ^ (i % m)) (2 ^ m))) (m * m)
      (λ i h.
      let less : i % m < 8 = omega (arith, mod-lt i (some_side m i h)) in
      ap (digit (i / m)) (shown (2 ^ (i % m)) (pow-lt less)))

  -- the table's inverse leads the row to the position whose image it is
  undone_bit : can_undo m A ≡ true → Bits b → (p : ℕ) → p < m
      → digit p (get_or places (number m (λ q. get_or b q 0)) 0) ≡ image_bit m (undo_table m A) [] (λ q. get_or b q 0) p
  unfolding undo_row
  undone_bit can bits p h =
      let f = image m A [] in
      let U = undo_table m A in
      let u = undo_row m A [] in
      let row : ℕ → ℕ = λ q. get_or b q 0 in
      let x = number m row in
      let v = where_is f x (2 ^ m) in
      let apart : Apart (2 ^ m) f = (undoable_apart m A []).0 ((can_undo_lem m A []).0 can) in
      let met = where_met (2 ^ m) f (λ i l. image-below m A [] i) apart x (number-below m row bits) in
      let back : image m U u x ≡ v = ap (image m U u) (sym met.1) ∙ undo_after m A [] apart v met.0 in
      ap (digit p) (shown x (number_small row m bits small) ∙ sym back)
      ∙ digit-image m U u x p h ∙ image_added m U u (λ q. digit q x) p
      ∙ ap (λ (n : ℕ). (image_bit m U [] (λ q. digit q x) p + n) % 2) (no_row m U p h)
      ∙ omega (arith, image_bit_lem m U [] (λ q. digit q x) p)
      ∙ image_same m U [] (λ q. digit q x) row (digit-number m row bits) p

  pub undone_map : can_undo m A ≡ true → Bits b → (C c : List ℕ) → UndoPut m places b C c → (C ≡ undo_table m A) × (c ≡ undo_row m A b)
  unfolding undo_row product_row
  undone_map can bits C c put = (
    put.table_is ∙ undone_table,
    put.row_is
        ∙ tabulate_same (λ p. digit p (get_or places (number m (λ q. get_or b q 0)) 0)) (image_bit m (undo_table m A) [] (λ q. get_or b q 0)) m
        (undone_bit can bits),
  )

-- ---- the product
module _ (m : ℕ) (A b C c : List ℕ) (row_bits : Bits b) (bits : Bits C) (row-bits' : Bits c) (images : List ℕ)
    (shown : Shows (image m A []) (2 ^ m) images) (x : ℕ) (is_row : x ≡ number m (λ p. get_or b p 0)) where
  product_bit : (q p : ℕ) → p < m → digit p (get_or images (number m (λ k. get_or C (k * m + q) 0)) 0)
      ≡ total (λ k. get_or A (p * m + k) 0 * get_or C (k * m + q) 0) m % 2
  unfolding image_bit
  product_bit q p h =
      let column : ℕ → ℕ = λ k. get_or C (k * m + q) 0 in
      let y = number m column in
      let is_bit : (k : ℕ) → column k < 2 = λ k. bits (k * m + q) in
      ap (digit p) (shown y (number-below m column is_bit)) ∙ digit-image m A [] y p h
      ∙ image_same m A [] (λ k. digit k y) column (digit-number m column is_bit) p
      ∙ ap (λ (n : ℕ). n % 2) (add-zero (total (λ k. get_or A (p * m + k) 0 * column k) m))

  row_bit : (p : ℕ) → p < m → digit p (bit_xor (get_or images (number m (λ q. get_or c q 0)) 0) x) ≡ image_bit m A b (λ q. get_or c q 0) p
  row_bit p h =
      let row : ℕ → ℕ = λ q. get_or c q 0 in
      let y = number m row in
      ap (digit p) (ap₂ bit_xor (shown y (number-below m row row-bits')) is_row ∙ image-row m A b row_bits y)
      ∙ digit-image m A b y p h ∙ image_same m A b (λ q. digit q y) row (digit-number m row row-bits') p

  pub product_put : (D d : List ℕ) → ProductPut m images x C c D d → (D ≡ product_table m A C) × (d ≡ product_row m A b c)
  unfolding product_table product_row
  product_put D d put = (
    put.table_is
        ∙ tabulate_same (λ i. digit (i / m) (get_or images (number m (λ k. get_or C (k * m + i % m) 0)) 0))
        (λ i. total (λ k. get_or A (i / m * m + k) 0 * get_or C (k * m + i % m) 0) m % 2) (m * m)
        (λ i h. product_bit (i % m) (i / m) ((div-lt_iff_lt-mul (some_side m i h)).1 h)),
    put.row_is ∙ tabulate_same (λ p. digit p (bit_xor (get_or images (number m (λ q. get_or c q 0)) 0) x)) (image_bit m A b (λ q. get_or c q 0)) m row_bit,
  )
