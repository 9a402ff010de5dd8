-- Laws of the memory's arrays where the sums are of any kind: what is read from them.
use Rattle.std.specs.Prelude.{◌≡◌, List, map, ℕ, suc, ◌+◌, ◌-◌, ◌^◌, ◌≤◌, ◌<◌, ℤ, length, get_or, take}
use Rattle.std.proofs.Common.{ap, sym, ◌∙◌, subst, arith, length-take, pow_pos}
use Rattle.std.proofs.lemmas.List.{take-map}
use Rattle.words.specs.Bits.{Bits}
use Rattle.decoding.specs.Readings.{sizes, sum_limit}
use Rattle.decoding.specs.Walk.{value}
use Rattle.decoding.specs.Quick.{lower_row}
use Rattle.numbers.specs.Lowest.{LowestOne}
use Rattle.rows.specs.Rows.{row_of, with_row}
use Rattle.rows.specs.SumLaws.{length-wholes, entry-read, wholes-entry}
use Rattle.memory.specs.Memory.{Arrays, Made, RowsFor, ValueReady, RowsReady, LowReady}
use Rattle.memory.proofs.LowLaws.{low-room, low_small}
use Rattle.memory.proofs.CodeLaws.{made_above, start_asked, start-made, same_arrays, value_made, single_value}

-- the whole number that a sum or a reading is, and those of a row
module _ {X : Type 0} (whole : X → ℤ) (wholes : List X → List ℤ) (each : (l : List X) → wholes l ≡ map whole l) where
  pub arrays : {y : List ℕ} (s : List X) → length s ≡ 256 → length y ≡ 256 → Bits y → Arrays (wholes s) y
  arrays s e f bits = record { long_rows = length-wholes whole wholes each s ∙ e; long_path = f; bits = bits }

  pub same_rows : {y : List ℕ} (s s' : List X) → Arrays (wholes s) y → length s' ≡ length s → Arrays (wholes s') y
  same_rows s s' a e = same_arrays a (length-wholes whole wholes each s' ∙ e ∙ sym (length-wholes whole wholes each s))

  -- what the row of 2^t sums asks of the row above it, where it is made by straight code
  pub low_asks : {t i : ℕ} {y : List ℕ} (s : List X) → LowReady (suc t) i y (wholes s)
      → (2 ^ t + 2 ^ t + (2 ^ t + 2 ^ t) ≤ length s) × (sizes (row_of (2 ^ t + 2 ^ t) (wholes s)) < sum_limit)
  low_asks {t} s r = (subst (λ (n : ℕ). 2 ^ t + 2 ^ t + (2 ^ t + 2 ^ t) ≤ n) (length-wholes whole wholes each s) (low-room r), low_small r)

  -- in the array s the rows of 2^u sums and more are made for i
  abbrev pub From : ℕ → List ℤ → List ℕ → ℕ → ℕ → List X → Type 0
  From m l y i u s = Arrays (wholes s) y × Made m l y i u (wholes s)

  pub from_above : {m i k : ℕ} {y : List ℕ} {l : List ℤ} (n : ℕ) (s : List X) → k ≤ n → From m l y i k s → From m l y i n s
  from_above n s h f = (f.0, made_above h f.1)

  -- where i starts a block of 2^t indices, below which all rows are lower rows: the next one has n = 2^(u - 1) sums
  module _ {m i t u : ℕ} {y : List ℕ} {l s₀ : List ℤ} (s : List X) (r : RowsReady m l y i t s₀) (h : u ≤ t) (some : 0 < u) (f : From m l y i u s)
      (n : ℕ) (is : n ≡ 2 ^ (u - 1)) where
    pub start_asks : (n + n + (n + n) ≤ length s) × (sizes (row_of (n + n) (wholes s)) < sum_limit)
    start_asks =
        let e = start_asked r f.0 h some f.1 n is in
        (subst (λ (k : ℕ). n + n + (n + n) ≤ k) (length-wholes whole wholes each s) e.0, e.1)

    pub start_next : (s' : List X) → LowestOne t i → length s' ≡ length s → wholes s' ≡ with_row n (wholes s) (lower_row n (row_of (n + n) (wholes s)))
        → From m l y i (u - 1) s'
    start_next s' o same e = (same_rows s s' f.0 same, start-made r f.0 h some f.1 o n is e)

  -- the first 2^m of them, lent
  pub wholes-front : (n m : ℕ) (l : List X) → n ≡ 2 ^ m → wholes (take (n - 0) l) ≡ take (2 ^ m) (wholes l)
  wholes-front n m l e =
      let k : n - 0 ≡ 2 ^ m = omega (arith, e) in
      each (take (n - 0) l) ∙ sym (take-map whole (n - 0) l) ∙ ap (take (n - 0)) (sym (each l)) ∙ ap (λ (i : ℕ). take i (wholes l)) k

  -- the value x, read from the row of one sum
  pub value_read : {m j i : ℕ} {y : List ℕ} {l s : List ℤ} (s' : List X) (x : X) → ValueReady m l y j i s → 0 < m → length y ≡ 256 → 1 < length s'
      → x ≡ get_or s' 1 x → Made m l y i 0 (wholes s') → (whole (get_or s' 1 x) ≡ value m l (take i y)) × RowsFor m l y i i (wholes s')
  value_read s' x v more long room is f =
      let e = value_made v more long f in
      (ap whole (sym is) ∙ wholes-entry whole wholes each s' 1 x is room ∙ e.0, e.1)

  -- one reading x is its own value
  pub single_read : {m i : ℕ} {y : List ℕ} (l₀ : List X) {s : List ℤ} (x : X) (z : ℤ) → m ≡ 0 → 0 < length l₀ → x ≡ get_or l₀ 0 x → z ≡ whole (get_or l₀ 0 x)
      → (z ≡ value m (take (2 ^ m) (wholes l₀)) (take i y)) × RowsFor m (take (2 ^ m) (wholes l₀)) y i i s
  single_read {m = m} {i = i} {y = y} l₀ {s = s} x z none some is e =
      let f = single_value {i = i} {y = y} (wholes l₀) {s = s} none in
      (e ∙ ap whole (sym is) ∙ wholes-entry whole wholes each l₀ 0 x is some ∙ f.0, f.1)

  -- read with any default for missing entries
  pub single_any : {m i : ℕ} {y : List ℕ} (l₀ : List X) {s : List ℤ} → m ≡ 0 → length (take (2 ^ m) (wholes l₀)) ≡ 2 ^ m → (none : X)
      → (whole (get_or l₀ 0 none) ≡ value m (take (2 ^ m) (wholes l₀)) (take i y)) × RowsFor m (take (2 ^ m) (wholes l₀)) y i i s
  single_any {m = m} {i = i} {y = y} l₀ {s = s} z long none =
      let some : 0 < length l₀ = omega (arith, long, length-take (2 ^ m) (wholes l₀), length-wholes whole wholes each l₀, pow_pos m) in
      let e = single_value {i = i} {y = y} (wholes l₀) {s = s} z in
      (entry-read whole wholes each l₀ 0 none some ∙ e.0, e.1)
