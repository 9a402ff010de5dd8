-- Laws of the steps on a pair, and of the loops that fill a row: what a pass reads and what it stores, whichever list l of 2h entries it reads;
-- of signs.
use Rattle.std.specs.Prelude.{◌≡◌, refl, true, false, List, map, ℕ, zero, suc, ◌+◌, ◌-◌, ◌^◌, ◌≤◌, ◌<◌, ℤ, pos, negsuc, nat_abs, ◌-ℤ◌, length, get_or, set}
use Rattle.std.specs.Prelude.{take, drop, T}
use Rattle.std.proofs.Common.{ap, ap₂, sym, ◌∙◌, arith, add-one, take-append-drop, length-drop, drop_of_length-le, get_or-take, get_or-drop, length-take-le}
use Rattle.std.proofs.Common.{SFits, to_z, of_z, to_z-of_z}
use Rattle.std.proofs.lemmas.List.{length-map}
use Rattle.std.proofs.Math.ListN.{get_or-map}
use Rattle.std.specs.Int.Signed.{lt_z, non_neg}
use Rattle.std.proofs.Math.Seq.{paste, paste-suc}
use Rattle.std.proofs.lemmas.List.Edits.{drop-paste}
use Rattle.std.specs.Int.{w16, w32}
use Rattle.std.proofs.Math.Facts.{sfits_widen}
use Rattle.numbers.specs.Front.{front, front-suc, front-done}
use Rattle.numbers.specs.Parts.{up, down}
use Rattle.numbers.specs.PartsLaws.{less_parts, not_less_parts}
use Rattle.decoding.specs.Readings.{loss, sizes}
use Rattle.decoding.specs.Quick.{hard, lower, upper, lower_row, upper_row}
use Rattle.decoding.specs.StepLaws.{entry-sizes, sizes-append, length-lower_row, length-upper_row, get_or-lower_row, get_or-upper_row}
use Rattle.rows.specs.Rows.{row_of}

-- x and y are the entries j of the halves of l
pub record Pair (h j : ℕ) (l : List ℤ) (x y : ℤ) : Type 0 where
  pub first : x ≡ get_or l j (pos 0)
  pub second : y ≡ get_or l (h + j) (pos 0)

-- ---- the steps by a bit that is not 0
pub upper-one : (x y : ℤ) (a : ℕ) → (a ≡ 0 → ⊥) → y -ℤ x ≡ upper x y a
upper-one x y zero h = absurd (h refl)
upper-one x y (suc a) h = refl

pub loss_of_one : (v : ℤ) (b : ℕ) → (b ≡ 0 → ⊥) → loss v b ≡ up v
loss_of_one v zero h = absurd (h refl)
loss_of_one v (suc b) h = refl

-- ---- signs, by the machine's test: the bit that a value speaks for, and a value that is not negative
pub hard-one : (v : ℤ) → lt_z v (pos 0) ≡ true → 1 ≡ hard v
hard-one (pos n) h = absurd (omega (arith, less_parts (pos n) (pos 0) h))
hard-one (negsuc n) h = refl

pub hard-zero : (v : ℤ) → lt_z v (pos 0) ≡ false → 0 ≡ hard v
hard-zero (pos n) h = refl
hard-zero (negsuc n) h = absurd (omega (arith, not_less_parts (negsuc n) (pos 0) h))

pub non_negative : (v : ℤ) → down v ≡ 0 → T (non_neg v)
non_negative (pos n) h = tt
non_negative (negsuc n) h = absurd (omega arith)

-- ---- sizes
pub pair-sizes : (h j : ℕ) (l : List ℤ) (x y : ℤ) → Pair h j l x y → j < h → nat_abs x + nat_abs y ≤ sizes l
pair-sizes h j l x y p below =
    let e : sizes l ≡ sizes (take h l) + sizes (drop h l) = sym (ap sizes (take-append-drop h l)) ∙ sizes-append (take h l) (drop h l) in
    rw (p.first ∙ sym (get_or-take h l j (pos 0) below), p.second ∙ sym (get_or-drop h l j (pos 0)), e)
    (omega (arith, entry-sizes (take h l) j, entry-sizes (drop h l) j))

-- ---- what is read
pub length-row_of : (n : ℕ) (s : List ℤ) → n + n ≤ length s → length (row_of n s) ≡ n
length-row_of n s room = length-take-le n (drop n s) (simp length-drop (omega arith))

-- of the array d, whose row of h sums becomes x and has j of them: the row above is as it was
pub row-entry : (d x s : List ℤ) (h j i : ℕ) → h + h + (h + h) ≤ length d → length x ≡ h → s ≡ paste d h x j → j < h → i < h + h
    → get_or s (h + h + i) (pos 0) ≡ get_or (row_of (h + h) d) i (pos 0)
row-entry d x s h j i room long is more below =
    let e : h + h + i ≡ h + j + (h - j + i) = omega arith in
    ap₂ (λ (l : List ℤ) (k : ℕ). get_or l k (pos 0)) is e
    ∙ sym (get_or-drop (h + j) (paste d h x j) (h - j + i) (pos 0))
    ∙ ap (λ (l : List ℤ). get_or l (h - j + i) (pos 0)) (drop-paste d h x j (omega arith) (omega arith))
    ∙ get_or-drop (h + j) d (h - j + i) (pos 0)
    ∙ ap (λ (k : ℕ). get_or d k (pos 0)) (sym e)
    ∙ sym (get_or-take (h + h) (drop (h + h) d) i (pos 0) below ∙ get_or-drop (h + h) d i (pos 0))

-- as the machine reads it
pub row_read : (d x s : List ℤ) (h j i : ℕ) → h + h + (h + h) ≤ length d → length x ≡ h → s ≡ paste d h x j → j < h → i < h + h
    → SFits w32 (get_or s (h + h + i) (pos 0)) → to_z w32 (of_z w32 (get_or s (h + h + i) (pos 0))) ≡ get_or (row_of (h + h) d) i (pos 0)
row_read d x s h j i room long is more below fits = to_z-of_z fits ∙ row-entry d x s h j i room long is more below

-- a reading of 16 bits, as a number of 32
pub reading_fits : {z : ℤ} → SFits w16 z → SFits w32 (to_z w16 (of_z w16 z))
reading_fits f = rw (to_z-of_z f) (sfits_widen {w = w16} {w' = w32} tt f)

pub reading-read : {z : ℤ} → SFits w16 z → to_z w32 (of_z w32 (to_z w16 (of_z w16 z))) ≡ z
reading-read f = to_z-of_z (reading_fits f) ∙ to_z-of_z f

pub reading-size : (z : ℤ) → SFits w16 z → nat_abs z ≤ 2 ^ 15
reading-size (pos n) f = omega (arith, f.sfits)
reading-size (negsuc n) f = omega (arith, f.sfits)

-- ---- what is stored
row-turn : (d x s : List ℤ) (h j : ℕ) (v : ℤ) → h + h ≤ length d → length x ≡ h → s ≡ paste d h x j → j < h
    → v ≡ get_or x j (pos 0) → set s (h + j) v ≡ paste d h x (j + 1)
row-turn d x s h j v room long is more e = rw (add-one, is, e) (paste-suc d h x j (pos 0) (omega arith) (omega arith))

module _ (d s l : List ℤ) (h j : ℕ) (x y v : ℤ) (room : h + h ≤ length d) (long : length l ≡ h + h) (more : j < h) (pair : Pair h j l x y) where
  pub lower-turn : s ≡ paste d h (lower_row h l) j → v ≡ lower x y → set s (h + j) v ≡ paste d h (lower_row h l) (j + 1)
  lower-turn is e =
      row-turn d (lower_row h l) s h j v room (length-lower_row h l long) is more
      (e ∙ ap₂ lower pair.first pair.second ∙ sym (get_or-lower_row h l long j more))

  pub upper-turn : (w : List ℕ) → h ≤ length w → s ≡ paste d h (upper_row h l (take h w)) j → v ≡ upper x y (get_or w j 0)
      → set s (h + j) v ≡ paste d h (upper_row h l (take h w)) (j + 1)
  upper-turn w k is e =
      let a = length-take-le h w k in
      row-turn d (upper_row h l (take h w)) s h j v room (length-upper_row h l long (take h w) a) is more
      (e ∙ ap₂ (λ (p q : ℤ). upper p q (get_or w j 0)) pair.first pair.second
      ∙ ap (upper (get_or l j (pos 0)) (get_or l (h + j) (pos 0))) (sym (get_or-take h w j 0 more))
      ∙ sym (get_or-upper_row h l long j more (take h w) a))

-- ---- the signs of a row: i of them are put
module _ (w v : List ℕ) (l : List ℤ) (i : ℕ) (long : length l ≡ length w) (e : v ≡ front w (map hard l) i) where
  pub sign-more : i < length w → set v i (hard (get_or l i (pos 0))) ≡ front w (map hard l) (i + 1)
  sign-more h =
      let s : List ℕ = map hard l in
      ap₂ (λ (x : List ℕ) (b : ℕ). set x i b) e (sym (get_or-map hard l i (pos 0)))
      ∙ front-suc w s i 0 h (omega (arith, length-map l hard))
      ∙ ap (front w s) (sym (add-one i))

  pub signs_done : length w ≤ i → v ≡ map hard l
  signs_done h =
      let s : List ℕ = map hard l in
      e ∙ front-done w s i h (drop_of_length-le s {i = i} (omega (arith, length-map l hard)))
