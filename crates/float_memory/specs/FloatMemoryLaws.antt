-- Laws of the memory's arrays where the sums are floats: what is read from them. The laws of `memory` do the rest.
use Rattle.std.specs.Prelude.{◌≡◌, List, ℕ, suc, ◌<◌, ℤ, pos, length, get_or, take, Float}
use Rattle.std.proofs.Common.{◌∙◌, arith}
use Rattle.std.specs.Float.{nan}
use Rattle.decoding.specs.Walk.{value}
use Rattle.memory.specs.Memory.{remade, Arrays, Made, RowsFor, Top, ValueReady, LowReady}
use Rattle.memory.proofs.CodeLaws.{low_asked, low-made, first-ready, value_arrays, value_made}
use Rattle.float_numbers.specs.Whole.{whole_of, wholes}
use Rattle.float_numbers.proofs.WholesLaws.{length-wholes, wholes-entry}

-- the value, read from the row of one sum
pub value_read : {m j i : ℕ} {y : List ℕ} {l s : List ℤ} (s' : List Float) → ValueReady m l y j i s → 0 < m → length y ≡ 256 → 1 < length s'
    → Made m l y i 0 (wholes s') → (whole_of (get_or s' 1 nan) ≡ value m l (take i y)) × RowsFor m l y i i (wholes s')
value_read s' v more long room f =
    let e = value_made v more long f in
    (wholes-entry s' 1 nan (pos 0) room ∙ e.0, e.1)

-- if the row of 2^t sums is the highest that changes: it and those below it, made by straight code
module _ {m j i t : ℕ} {y : List ℕ} {l : List ℤ} (s : List Float) (v : ValueReady m l y j i (wholes s)) (top : Top m j i t)
    (long : length s ≡ 256) (path : length y ≡ 256) (more : suc t < m) where
  arrays : Arrays (wholes s) y
  arrays = value_arrays v (length-wholes s ∙ long) path

  pub short_asked : t < 3 → LowReady (suc t) i y (wholes s)
  short_asked few = low_asked (first-ready v top) arrays few more

  pub short_read : (s' : List Float) → 1 < length s' → wholes s' ≡ remade (suc t) i y (wholes s)
      → (whole_of (get_or s' 1 nan) ≡ value m l (take i y)) × RowsFor m l y i i (wholes s')
  short_read s' room e = value_read s' v (omega (arith, more)) path room (low-made (first-ready v top) arrays more e)
