-- Laws of the memory's functions in the words of the code, where h is 2^t.
use Rattle.std.specs.Prelude.{◌≡◌, List, ℕ, suc, ◌+◌, ◌-◌, ◌*◌, ◌^◌, ◌/◌, ◌%◌, ◌≤◌, ◌<◌, ℤ, pos, length, get_or, take, drop}
use Rattle.std.proofs.Common.{refl, ap, sym, ◌∙◌, subst, arith, length-drop, take-take, get_or-take, pow_mono}
use Rattle.std.proofs.Math.Nat.{two-pow-succ}
use Rattle.std.proofs.Common.{SFits, to_z, of_z}
use borrow.Rule.Slice.PartMut.{mid_of}
use Rattle.std.specs.Int.{w16, w32}
use Rattle.numbers.specs.Lowest.{LowestOne}
use Rattle.words.specs.Word.{transform}
use Rattle.decoding.specs.Readings.{sizes, sum_limit}
use Rattle.decoding.specs.Quick.{lower_row, upper_row}
use Rattle.decoding.specs.Walk.{value}
use Rattle.rows.specs.Rows.{row_of, with_row}
use Rattle.rows.specs.RowLaws.{reading-read}
use Rattle.memory.specs.Memory.{below, new_row, remade, Arrays, Made, RowsFor, Top, ValueReady, RowsReady, LowReady}
use Rattle.memory.proofs.RowLaws.{below-upper}
use Rattle.memory.proofs.LowLaws.{whole_pair, start_odd, start-here, lower-new}
use Rattle.memory.proofs.MadeLaws.{above_small, made_top, made_row, made-remade, made_all, last_entry, last_row_lem, still_made}

-- a word of one bit is that bit
pub bit_word : (y : List ℕ) (i : ℕ) → 0 < i → take 1 (mid_of (i - 1) (i - (i - 1)) y) ≡ transform 0 (take 1 (drop (i - 1) y))
unfolding transform
bit_word y i h = let n : i - (i - 1) ≡ 1 = omega arith in ap (λ (k : ℕ). take 1 (take k (drop (i - 1) y))) n ∙ take-take 1 1 (drop (i - 1) y) (omega arith)

-- ---- one row, of all readings or of a row above it, r
module _ (t h i : ℕ) (y : List ℕ) (r s : List ℤ) (is : h ≡ 2 ^ t) where
  pub upper-made : {s' : List ℤ} (w : List ℕ) → i / h % 2 ≡ 1 → take h w ≡ transform t (take h (drop (i / h * h - h) y))
      → s' ≡ with_row h s (upper_row h r (take h w)) → s' ≡ with_row (2 ^ t) s (below t i y r)
  upper-made w o e f =
      let o2 : i / 2 ^ t % 2 ≡ 1 = rw is at o in
      f ∙ ap (λ (k : List ℕ). with_row h s (upper_row h r k)) e ∙ rw is (ap (with_row (2 ^ t) s) (sym (below-upper t i y r o2)))

  -- where the block starts at i
  pub upper-here : {s' : List ℤ} (w : List ℕ) → i / h % 2 ≡ 1 → i / h * h ≡ i → take h w ≡ transform t (take h (drop (i - h) y))
      → s' ≡ with_row h s (upper_row h r (take h w)) → s' ≡ with_row (2 ^ t) s (below t i y r)
  upper-here w o here e f =
      upper-made w o (e ∙ ap (λ (k : ℕ). transform t (take h (drop (k - h) y))) (sym here)) f

-- ---- where i starts a block of two or of four and none of twice as many
pub pair-here : {i : ℕ} {y p : List ℕ} {s s' : List ℤ} → i % 4 ≡ 2 → LowReady 2 i y s → p ≡ transform 1 (take 2 (drop (i - 2) y))
    → s' ≡ with_row 2 s (upper_row 2 (row_of 4 s) (take 2 p)) → s' ≡ new_row 1 i y s
pair-here {i} {y} {p} {s} o r e f =
    let word = whole_pair (drop (i - 2) y) (simp length-drop (omega (arith, o, r.short, r.arrays.long_path))) e in
    upper-here 1 2 i y (row_of 4 s) s refl p (start_odd 1 i o) (start-here 1 i o) word f

pub four-here : {i : ℕ} {y : List ℕ} {s s' : List ℤ} (w : List ℕ) → i % 8 ≡ 4 → LowReady 3 i y s → take 4 w ≡ transform 2 (take 4 (drop (i - 4) y))
    → s' ≡ with_row 4 s (upper_row 4 (row_of 8 s) (take 4 w)) → s' ≡ new_row 2 i y s
four-here {i} {y} {s} w o r e f = upper-here 2 4 i y (row_of 8 s) s refl w (start_odd 2 i o) (start-here 2 i o) e f

-- ---- the first row that is made, and the next ones
module _ {m i t : ℕ} {y : List ℕ} {l s : List ℤ} (r : RowsReady m l y i t s) (a : Arrays s y) where
  pub short : i < 256
  short = omega (arith, r.room, r.inside)

  path : i ≤ length y
  path = omega (arith, short, a.long_path)

  room : 2 ^ m ≤ length s
  room = omega (arith, r.room, a.long_rows)

  pub top_long : suc t ≡ m → length l ≡ 2 ^ t + 2 ^ t
  top_long e = r.long ∙ ap (λ (k : ℕ). 2 ^ k) (sym e) ∙ two-pow-succ t

  pub top_fits : 2 ^ t + 2 ^ t ≤ 256
  top_fits = omega (arith, two-pow-succ t, pow_mono {i = suc t} {j = m} r.some, r.room)

  pub row_fits : suc t < m → 2 ^ t + 2 ^ t + (2 ^ t + 2 ^ t) ≤ 256
  row_fits h = omega (arith, two-pow-succ t, two-pow-succ (suc t), pow_mono {i = suc (suc t)} {j = m} h, r.room)

  pub row_small : suc t < m → sizes (row_of (2 ^ t + 2 ^ t) s) < sum_limit
  row_small h = above_small r.some r.long path room r.rows r.small h

  pub top_made : {s' : List ℤ} → suc t ≡ m → s' ≡ with_row (2 ^ t) s (below t i y l) → Made m l y i t s'
  top_made e f = subst (Made m l y i t) (sym f) (made_top r.some r.long path room r.rows e)

  pub row_made : {s' : List ℤ} → suc t < m → s' ≡ new_row t i y s → Made m l y i t s'
  row_made h f = subst (Made m l y i t) (sym f) (made_row r.some r.long path room r.rows h)

  -- by straight code
  pub low_asked : t < 3 → suc t < m → LowReady (suc t) i y s
  low_asked few h = record { few = few; short = short; arrays = a; small = rw (two-pow-succ t) (row_small h) }

  pub low-made : {s' : List ℤ} → suc t < m → s' ≡ remade (suc t) i y s → Made m l y i 0 s'
  low-made h f = subst (Made m l y i 0) (sym f) (made-remade (suc t) h r.long path room r.rows)

-- what the value asks of the highest row that changes
pub first-ready : {m j i t : ℕ} {y : List ℕ} {l s : List ℤ} → ValueReady m l y j i s → Top m j i t → RowsReady m l y i t s
first-ready v o =
    record { room = v.room; inside = v.inside; some = o.within; long = v.long; small = v.small; rows = still_made o v.before }

-- a pass of the loop: the row of half as many sums is next
pub pass_ready : {m i high t : ℕ} {y : List ℕ} {l s₀ s : List ℤ} → RowsReady m l y i high s₀ → t ≤ high → 0 < t → Made m l y i t s
    → RowsReady m l y i (t - 1) s
pass_ready {m} {i} {t = t} {y = y} {l = l} {s = s} r h k f =
    let e : t ≡ suc (t - 1) = omega arith in
    record {
      room = r.room;
      inside = r.inside;
      some = omega (arith, r.some);
      long = r.long;
      small = r.small;
      rows = subst (λ (n : ℕ). Made m l y i n s) e f;
    }

-- and where it ends
pub made_above : {m i k n : ℕ} {y : List ℕ} {l s : List ℤ} → k ≤ n → Made m l y i k s → Made m l y i n s
made_above h f = record { made = λ t k. f.made t (omega arith) }

pub same_arrays : {s s' : List ℤ} {y : List ℕ} → Arrays s y → length s' ≡ length s → Arrays s' y
same_arrays a e = record { long_rows = e ∙ a.long_rows; long_path = a.long_path; bits = a.bits }

-- where i starts a block of 2^t indices, below which all rows are lower rows
module _ {m i t u : ℕ} {y : List ℕ} {l s₀ s : List ℤ} (r : RowsReady m l y i t s₀) (a : Arrays s y) (h : u ≤ t) (some : 0 < u) (f : Made m l y i u s) where
  next : RowsReady m l y i (u - 1) s
  next = pass_ready r h some f

  more : suc (u - 1) < m
  more = omega (arith, r.some)

  pub start_asked : (n : ℕ) → n ≡ 2 ^ (u - 1) → (n + n + (n + n) ≤ length s) × (sizes (row_of (n + n) s) < sum_limit)
  start_asked n is = rw is (omega (arith, row_fits next a more, a.long_rows), row_small next a more)

  pub start-made : {s' : List ℤ} → LowestOne t i → (n : ℕ) → n ≡ 2 ^ (u - 1) → s' ≡ with_row n s (lower_row n (row_of (n + n) s)) → Made m l y i (u - 1) s'
  start-made o n is e = row_made next a more (lower-new t i o (u - 1) n y s (omega arith) is e)

-- ---- the value, and what is left behind
module _ {m j i : ℕ} {y : List ℕ} {l s : List ℤ} (v : ValueReady m l y j i s) where
  pub value_arrays : length s ≡ 256 → length y ≡ 256 → Arrays s y
  value_arrays e f = record { long_rows = e; long_path = f; bits = v.bits }

  path_long : length y ≡ 256 → i ≤ length y
  path_long long = omega (arith, v.inside, v.room, long)

  pub value_made : {s' : List ℤ} → 0 < m → length y ≡ 256 → Made m l y i 0 s'
      → (get_or s' 1 (pos 0) ≡ value m l (take i y)) × RowsFor m l y i i s'
  value_made more long f = (last_entry more v.inside (path_long long) f, made_all f)

  -- as the machine reads it
  pub value-given : {s' : List ℤ} → 0 < m → length y ≡ 256 → Made m l y i 0 s'
      → (to_z w32 (of_z w32 (get_or s' 1 (pos 0))) ≡ value m l (take i y)) × RowsFor m l y i i s'
  value-given more long f = (last_row_lem more v.inside (path_long long) v.small f, made_all f)

-- one reading is its own value, and has no rows
pub single_value : {m i : ℕ} {y : List ℕ} (l₀ : List ℤ) {s : List ℤ} → m ≡ 0
    → (get_or l₀ 0 (pos 0) ≡ value m (take (2 ^ m) l₀) (take i y)) × RowsFor m (take (2 ^ m) l₀) y i i s
unfolding value
single_value {i = i} {y = y} l₀ z = (
  sym (ap (λ (k : ℕ). value k (take (2 ^ k) l₀) (take i y)) z ∙ get_or-take 1 l₀ 0 (pos 0) (omega arith)),
  record { rows = λ t h k. absurd (omega arith) },
)

-- as the machine reads it
pub single : {m i : ℕ} {y : List ℕ} (l₀ : List ℤ) {s : List ℤ} → m ≡ 0 → SFits w16 (get_or l₀ 0 (pos 0))
    → (to_z w32 (of_z w32 (to_z w16 (of_z w16 (get_or l₀ 0 (pos 0))))) ≡ value m (take (2 ^ m) l₀) (take i y)) × RowsFor m (take (2 ^ m) l₀) y i i s
single {i = i} {y = y} l₀ {s = s} z fits = let e = single_value {i = i} {y = y} l₀ {s = s} z in (reading-read fits ∙ e.0, e.1)
