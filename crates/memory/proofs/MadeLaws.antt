-- Laws of rows made one from the other, from the highest that changes down to the value in the last one.
use Rattle.std.specs.Prelude.{◌≡◌, List, ℕ, zero, suc, ◌+◌, ◌-◌, ◌^◌, ◌/◌, ◌%◌, ◌≤◌, ◌<◌, ℤ, pos, length, get_or, take, drop}
use Rattle.std.proofs.Common.{ap, sym, ◌∙◌, subst, ⊎_elim, arith, get_or-take, get_or-drop, pow_mono, shr-shr, to_z, of_z, to_z-of_z}
use Rattle.std.proofs.Math.Nat.{two-pow-succ, mod-le}
use Rattle.std.proofs.Math.Pow.{mod-mod-pow, split}
use Rattle.std.specs.Int.{w32}
use Rattle.numbers.specs.Choice.{lt_or_le}
use Rattle.numbers.specs.PartsLaws.{fits_size}
use Rattle.decoding.specs.Readings.{sizes, sum_limit}
use Rattle.decoding.specs.Walk.{value}
use Rattle.decoding.specs.PathLaws.{value-sizes}
use Rattle.rows.specs.Rows.{row_of, with_row}
use Rattle.rows.specs.PlaceLaws.{length-with_row, row_of-with_row, behind_with_row, behind_more}
use Rattle.memory.specs.Memory.{start_of, below, row_at, new_row, remade, Made, RowsFor, Top}
use Rattle.memory.proofs.RowLaws.{length-below, row_index, row_next, row_top, row-sizes, value_row}

-- ---- lengths of all rows
length-row : (m i : ℕ) (y : List ℕ) (l : List ℤ) → length l ≡ 2 ^ m → i ≤ length y → (d t : ℕ) → d + t ≡ m → length (row_at m i y l d) ≡ 2 ^ t
unfolding row_at
length-row m i y l long h zero t e = let k : m ≡ t = omega arith in long ∙ ap (λ (n : ℕ). 2 ^ n) k
length-row m i y l long h (suc d) t e =
    let k : m - suc d ≡ t = omega arith in
    ap (λ (n : ℕ). length (below n i y (row_at m i y l d))) k
    ∙ length-below t i y (row_at m i y l d) (length-row m i y l long h d (suc t) (omega arith)) h

-- ---- one row more
module _ {m i t : ℕ} {y : List ℕ} {l s : List ℤ} (within : t < m) (long : length l ≡ 2 ^ m) (path : i ≤ length y) (room : 2 ^ m ≤ length s)
    (from : Made m l y i (suc t) s) where
  fits : 2 ^ t + 2 ^ t ≤ length s
  fits = omega (arith, two-pow-succ t, pow_mono {i = suc t} {j = m} within)

  long_above : length (row_at m i y l (m - suc t)) ≡ 2 ^ suc t
  long_above = length-row m i y l long path (m - suc t) (suc t) (omega arith)

  -- the row above is that of all readings, or is in the array
  above_top : suc t ≡ m → l ≡ row_at m i y l (m - suc t)
  above_top e = sym (ap (λ (k : ℕ). row_at m i y l (m - k)) e ∙ row_top m l i y)

  above_row : suc t < m → row_of (2 ^ t + 2 ^ t) s ≡ row_at m i y l (m - suc t)
  above_row h = ap (λ (k : ℕ). row_of k s) (sym (two-pow-succ t)) ∙ from.made (suc t) (omega arith) h

  pub above_small : sizes l < sum_limit → suc t < m → sizes (row_of (2 ^ t + 2 ^ t) s) < sum_limit
  above_small small h = rw (above_row h) (omega (arith, row-sizes m l i y (m - suc t)))

  made_more : (r : List ℤ) → r ≡ row_at m i y l (m - suc t) → Made m l y i t (with_row (2 ^ t) s (below t i y r))
  made_more r e =
      let x = below t i y r in
      let lx : length x ≡ 2 ^ t = length-below t i y r (ap length e ∙ long_above) path in
      record {
        made = λ u h k. ⊎_elim
            (λ (j : t < u). let n : 2 ^ t + 2 ^ t + (2 ^ u - (2 ^ t + 2 ^ t)) ≡ 2 ^ u = omega (arith, two-pow-succ t, pow_mono {i = suc t} {j = u} j) in
            ap (take (2 ^ u)) (subst (λ (k : ℕ). drop k (with_row (2 ^ t) s x) ≡ drop k s) n
            (behind_more (2 ^ t + 2 ^ t) (2 ^ u - (2 ^ t + 2 ^ t)) (with_row (2 ^ t) s x) s (behind_with_row (2 ^ t) s x fits lx)))
            ∙ from.made u (omega arith) k)
            (λ (j : u ≤ t). let same : u ≡ t = omega arith in
            subst (λ (k : ℕ). row_of (2 ^ k) (with_row (2 ^ t) s x) ≡ row_at m i y l (m - k)) (sym same)
            (row_of-with_row (2 ^ t) s x fits lx ∙ ap (below t i y) e ∙ sym (row_next m l i y t within)))
            (lt_or_le t u);
      }

  pub made_top : suc t ≡ m → Made m l y i t (with_row (2 ^ t) s (below t i y l))
  made_top e = made_more l (above_top e)

  pub made_row : suc t < m → Made m l y i t (new_row t i y s)
  made_row h = made_more (row_of (2 ^ t + 2 ^ t) s) (above_row h)

  length-new : suc t < m → length (new_row t i y s) ≡ length s
  length-new h =
      length-with_row (2 ^ t) s (below t i y (row_of (2 ^ t + 2 ^ t) s)) fits
      (length-below t i y (row_of (2 ^ t + 2 ^ t) s) (ap length (above_row h) ∙ long_above) path)

-- all rows below one that is made
pub made-remade : {m i : ℕ} (k : ℕ) {y : List ℕ} {l s : List ℤ} → k < m → length l ≡ 2 ^ m → i ≤ length y → 2 ^ m ≤ length s → Made m l y i k s
    → Made m l y i 0 (remade k i y s)
unfolding remade
made-remade zero h long path room f = f
made-remade (suc t) {y = y} {l = l} {s = s} h long path room f =
    made-remade t {y = y} {l = l} (omega arith) long path (omega (arith, length-new (omega arith) long path room f h))
    (made_row (omega arith) long path room f h)

-- ---- all rows made
pub made_all : {m i : ℕ} {y : List ℕ} {l s : List ℤ} → Made m l y i 0 s → RowsFor m l y i i s
made_all f = record { rows = λ t h k. f.made t (omega arith) h }

-- the value is in the last row
pub last_entry : {m i : ℕ} {y : List ℕ} {l s : List ℤ} → 0 < m → i < 2 ^ m → i ≤ length y → Made m l y i 0 s → get_or s 1 (pos 0) ≡ value m l (take i y)
last_entry {m} {i} {y} {l} {s} more h path f =
    let none : m - 0 ≡ m = omega arith in
    let row : row_of 1 s ≡ row_at m i y l m = f.made 0 (omega arith) (omega arith) ∙ ap (row_at m i y l) none in
    sym (value_row m i y l h path ∙ ap (λ (k : List ℤ). get_or k 0 (pos 0)) (sym row) ∙ get_or-take 1 (drop 1 s) 0 (pos 0) (omega arith)
    ∙ get_or-drop 1 s 0 (pos 0))

-- as the machine reads it
pub last_row_lem : {m i : ℕ} {y : List ℕ} {l s : List ℤ} → 0 < m → i < 2 ^ m → i ≤ length y → sizes l < sum_limit → Made m l y i 0 s
    → to_z w32 (of_z w32 (get_or s 1 (pos 0))) ≡ value m l (take i y)
last_row_lem {m} {i} {y} {l} more h path small f =
    ap (λ (z : ℤ). to_z w32 (of_z w32 z)) (last_entry more h path f)
    ∙ to_z-of_z {w = w32} (fits_size (value m l (take i y)) (omega (arith, value-sizes m l (take i y))))

-- ---- rows that are made for another index
pub still_made : {m j i t : ℕ} {y : List ℕ} {l s : List ℤ} → Top m j i t → RowsFor m l y j (i - 1) s → Made m l y i (suc t) s
still_made {m} {j} {i} {t} {y} {l} {s} o f =
    record {
      made = λ u h k.
          let e : j / 2 ^ u ≡ i / 2 ^ u = same_above u h (o.same (omega arith)) in
          let b : start_of u i ≤ i - 1 = omega (arith, starts_above u h, o.before (omega arith)) in
          f.rows u k (rw e b) ∙ row_index m l j i y (m - u) u (omega arith) e;
    }
  where
    same_above : (u : ℕ) → suc t ≤ u → j / 2 ^ suc t ≡ i / 2 ^ suc t → j / 2 ^ u ≡ i / 2 ^ u
    same_above u h e =
        let n : suc t + (u - suc t) ≡ u = omega arith in
        subst (λ (k : ℕ). j / 2 ^ k ≡ i / 2 ^ k) n (sym (shr-shr j (suc t) (u - suc t)) ∙ ap (λ (k : ℕ). k / 2 ^ (u - suc t)) e ∙ shr-shr i (suc t) (u - suc t))

    starts_above : (u : ℕ) → suc t ≤ u → start_of u i ≤ start_of (suc t) i
    starts_above u h =
        let n : u - suc t + suc t ≡ u = omega arith in
        let low : i % 2 ^ u % 2 ^ suc t ≡ i % 2 ^ suc t = subst (λ (k : ℕ). i % 2 ^ k % 2 ^ suc t ≡ i % 2 ^ suc t) n (mod-mod-pow i (u - suc t) (suc t)) in
        omega (arith, split i u, split i (suc t), low, mod-le (i % 2 ^ u) (2 ^ suc t))
