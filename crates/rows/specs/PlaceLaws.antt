-- Laws of a row put in its place: it is there, what lies behind it is as it was, and what is written before a row leaves the row.
use Rattle.std.specs.Prelude.{◌≡◌, List, ℕ, ◌+◌, ◌-◌, ◌≤◌, ℤ, length, take, drop}
use Rattle.std.proofs.Common.{ap, sym, ◌∙◌, arith, drop_at, take_all, drop-drop, length-take-le}
use Rattle.std.proofs.lemmas.List.Edits.{take-paste, drop-paste, length-paste}
use Rattle.numbers.specs.Halves.{drop-take}
use Rattle.rows.specs.Rows.{row_of, with_row}

pub row_of-front : (h : ℕ) (s : List ℤ) → row_of h s ≡ drop h (take (h + h) s)
row_of-front h s =
    let e : h + h - h ≡ h = omega arith in
    sym (drop-take h (h + h) s ∙ ap (λ (k : ℕ). take k (drop h s)) e)

module _ (h : ℕ) (s x : List ℤ) (room : h + h ≤ length s) (long : length x ≡ h) where
  pub length-with_row : length (with_row h s x) ≡ length s
  length-with_row = length-paste s h x h room (omega arith)

  pub behind_with_row : drop (h + h) (with_row h s x) ≡ drop (h + h) s
  behind_with_row = drop-paste s h x h (omega arith) (omega arith)

  pub row_of-with_row : row_of h (with_row h s x) ≡ x
  row_of-with_row =
      row_of-front h (with_row h s x)
      ∙ ap (drop h) (take-paste s h x h (omega arith) (omega arith))
      ∙ drop_at (take h s) (take h x) h (length-take-le h s (omega arith))
      ∙ take_all h x (omega arith)

-- two arrays with the same entries from n on
module _ (n k : ℕ) (s t : List ℤ) (same : drop n s ≡ drop n t) where
  pub behind_more : drop (n + k) s ≡ drop (n + k) t
  behind_more = sym (drop-drop k n s) ∙ ap (drop k) same ∙ drop-drop k n t
