-- Laws of the loops over the arrays of images, places and columns: what holds before each pass, and what a pass does.
use Rattle.std.specs.Prelude.{◌≡◌, refl, true, false, List, [], ℕ, zero, suc, ◌+◌, ◌-◌, ◌*◌, ◌^◌, ◌%◌, ◌/◌, ◌≤◌, ◌<◌, length, get_or, set}
use Rattle.std.proofs.Common.{ap, ap₂, sym, ◌∙◌, ⊎_elim, arith, le_refl, mul-le-mul_right, mod-eq_of_lt, mod-lt, div-one, one-mul, add-one, pow_mono}
use Rattle.std.proofs.Common.{get_or-set_same, get_or-set_other, eq-eqb, ne_eqb}
use Rattle.std.proofs.Math.Nat.{two-pow-succ, mod-one}
use Rattle.std.proofs.Math.Decide.{ℕ_discrete}
use Rattle.std.specs.Int.Bits.{bit_xor}
use Rattle.numbers.specs.Choice.{lt_or_le}
use Rattle.numbers.specs.Front.{front, front-suc, front-all}
use Rattle.numbers.specs.Sums.{tabulate}
use Rattle.numbers.specs.SumsLaws.{length-tabulate, get_d_tabulate, tabulate_same}
use Rattle.words.specs.Bits.{Bits, digit}
use Rattle.maps.specs.Maps.{number, image, where_is, all_apart}
use Rattle.maps.proofs.TestLaws.{tested}
use Rattle.images.specs.Images.{Shows, Doubled, Placed, spread_of}
use Rattle.images.specs.ImagesLaws.{image_column, image-zero}

-- ---- a table's entry
pub some_side : (m i : ℕ) → i < m * m → 0 < m
some_side m i h = ⊎_elim (λ k. k) (λ (k : m ≤ 0). absurd (omega (arith, mul-le-mul_right m k))) (lt_or_le 0 m)

-- a power of 2 in 64 bits
pub shifted : (q : ℕ) → q ≤ 8 → 1 * 2 ^ q % 18446744073709551616 ≡ 2 ^ q
shifted q h = rw one-mul (mod-eq_of_lt (omega (arith, pow_mono {i = q} {j = 8} h)))

-- ---- an array that holds f up to where the loop is
pub shows_more : (f : ℕ → ℕ) (q : ℕ) (l : List ℕ) (x : ℕ) → q < length l → x ≡ f q → Shows f q l → Shows f (q + 1) (set l q x)
shows_more f q l x h e s i k =
    ⊎_elim
    (λ j. get_or-set_other l q i x 0 (λ z. omega arith) ∙ s i j)
    (λ (j : q ≤ i). let z : i ≡ q = omega arith in rw z (get_or-set_same l q x 0 h ∙ e))
    (lt_or_le i q)

-- ---- a buffer that is filled from its front
module _ {T : Type 0} (z : T) (f : ℕ → T) (n : ℕ) (d : List T) (long : length d ≡ n) where
  pub filled_more : (j : ℕ) (x : T) → j < n → x ≡ f j → set (front d (tabulate f n) j) j x ≡ front d (tabulate f n) (j + 1)
  filled_more j x h e =
      rw (add-one, e ∙ sym (get_d_tabulate f n j z h)) (front-suc d (tabulate f n) j z (omega arith) (omega (arith, length-tabulate f n)))

  pub filled_all : (j : ℕ) → j ≡ n → front d (tabulate f n) j ≡ tabulate f n
  filled_all j e = rw (e ∙ sym (length-tabulate f n)) (front-all d (tabulate f n) (long ∙ sym (length-tabulate f n)))

-- ---- images
module _ (h x : ℕ) (l k : List ℕ) (i : ℕ) (room : h + h ≤ length k) (less : i < h) where
  pub doubled-more : Doubled h i x l k → Doubled h (i + 1) x l (set k (h + i) (bit_xor (get_or k i 0) x))
  doubled-more d =
      let y = bit_xor (get_or k i 0) x in
      record {
        same = λ j a. get_or-set_other k (h + i) j y 0 (λ e. omega arith) ∙ d.same j a;
        added = λ j a.
            ⊎_elim
            (λ b. get_or-set_other k (h + i) (h + j) y 0 (λ e. omega arith) ∙ d.added j b)
            (λ (b : i ≤ j).
            let e : j ≡ i = omega arith in
            rw e (get_or-set_same k (h + i) y 0 (omega arith) ∙ ap (λ (n : ℕ). bit_xor n x) (d.same i less)))
            (lt_or_le j i);
      }

pub images_start : (m : ℕ) (A l : List ℕ) → 0 < length l → Shows (image m A []) (2 ^ 0) (set l 0 0)
images_start m A l h i less = let e : i ≡ 0 = omega arith in rw e (get_or-set_same l 0 0 0 h ∙ sym (image-zero m A))

-- column q is added to the images of the first 2^q positions
pub images_more : (m : ℕ) (A : List ℕ) → Bits A → (q : ℕ) → q < m → (h x : ℕ) → h ≡ 2 ^ q → x ≡ number m (λ p. get_or A (p * m + q) 0)
    → (l k : List ℕ) → Shows (image m A []) (2 ^ q) l → Doubled h h x l k → Shows (image m A []) (2 ^ (q + 1)) k
images_more m A bits q less h x e f l k s d i within =
    ⊎_elim
    (λ a. d.same i a ∙ s i (omega arith))
    (λ (a : h ≤ i).
    let j = i - h in
    let b : j < h = omega (arith, two-pow-succ q, ap (λ (n : ℕ). 2 ^ n) (add-one q)) in
    let c : j < 2 ^ q = omega arith in
    let same : i ≡ h + j = omega arith in
    let same' : 2 ^ q + j ≡ i = omega arith in
    ap (λ (n : ℕ). get_or k n 0) same ∙ d.added j b ∙ ap₂ bit_xor (s j c) f ∙ image_column m A bits q j less c ∙ ap (image m A []) same')
    (lt_or_le i h)

-- ---- places
pub none_placed : (images places : List ℕ) → Shows (λ v. 0) 256 places → Placed 0 images places
unfolding where_is
none_placed images places s = record { is_place = s }

pub placed_more : (j : ℕ) (images places : List ℕ) → get_or images j 0 < length places → Placed j images places
    → Placed (j + 1) images (set places (get_or images j 0) j)
unfolding where_is
placed_more j images places h s =
    let x = get_or images j 0 in
    rw (add-one j)
    (record {
      is_place = λ v less. elim (ℕ_discrete x v) [
        | yes e ↦ rw (eq-eqb x v e, ← e) (get_or-set_same places x j 0 h)
        | no e ↦ rw (ne_eqb x v e) (get_or-set_other places x v j 0 (λ z. e (sym z)) ∙ s.is_place v less)
      ];
    })

-- ---- no two images are equal exactly if each is at its own place
-- if some position has the value, the position that is found has it
where_hit : (f : ℕ → ℕ) (v n i : ℕ) → i < n → f i ≡ v → (where_is f v n < n) × (f (where_is f v n) ≡ v)
unfolding where_is
where_hit f v zero i h e = absurd (omega arith)
where_hit f v (suc n) i h e = elim (ℕ_discrete (f n) v) [
  | yes o ↦ rw (eq-eqb (f n) v o) (le_refl (suc n), o)
  | no o ↦
      let less : i < n = ⊎_elim (λ k. k) (λ (k : n ≤ i). let z : i ≡ n = omega arith in absurd (o (ap f (sym z) ∙ e))) (lt_or_le i n) in
      let r = where_hit f v n i less e in
      rw (ne_eqb (f n) v o) (omega (arith, r.0), r.1)
]

module _ (f : ℕ → ℕ) (n : ℕ) where
  pub not_apart : (j : ℕ) → j < n → (where_is f (f j) n ≡ j → ⊥) → false ≡ all_apart f n
  not_apart j h other =
      ⊎_elim
      (λ t. let r = where_hit f (f j) n j h refl in absurd (other (t.1 (where_is f (f j) n) j r.0 h r.1)))
      (λ t. sym t.0)
      (tested f n)

  pub all_placed : ((i : ℕ) → i < n → where_is f (f i) n ≡ i) → true ≡ all_apart f n
  all_placed own =
      ⊎_elim
      (λ t. sym t.0)
      (λ t. absurd (t.1 (λ i j h k e. sym (own i h) ∙ ap (λ (v : ℕ). where_is f v n) e ∙ own j k)))
      (tested f n)

  pub own-more : (j : ℕ) → where_is f (f j) n ≡ j → ((i : ℕ) → i < j → where_is f (f i) n ≡ i) → (i : ℕ) → i < j + 1 → where_is f (f i) n ≡ i
  own-more j e own i h = ⊎_elim (own i) (λ (k : j ≤ i). let z : i ≡ j = omega arith in rw z e) (lt_or_le i j)

-- ---- tables by their columns
pub spread-table : (f : ℕ → ℕ) (m : ℕ) (columns : List ℕ) (n : ℕ) → n ≡ m * m → Shows f m columns
    → spread_of columns m n ≡ tabulate (λ i. digit (i / m) (f (i % m))) (m * m)
spread-table f m columns n e s =
    ap (spread_of columns m) e
    ∙ tabulate_same (λ i. digit (i / m) (get_or columns (i % m) 0)) (λ i. digit (i / m) (f (i % m))) (m * m)
    (λ i h. ap (digit (i / m)) (s (i % m) (mod-lt i (some_side m i h))))

-- a row is a table of one column
pub spread_row : (columns : List ℕ) (x n m : ℕ) → 0 < length columns → n ≡ m → spread_of (set columns 0 x) 1 n ≡ tabulate (λ p. digit p x) m
spread_row columns x n m h e =
    ap (spread_of (set columns 0 x) 1) e
    ∙ tabulate_same (λ i. digit (i / 1) (get_or (set columns 0 x) (i % 1) 0)) (λ p. digit p x) m
    (λ i less. ap₂ (λ (p q : ℕ). digit p (get_or (set columns 0 x) q 0)) (div-one i) (mod-one i) ∙ ap (digit i) (get_or-set_same columns 0 x 0 h))
