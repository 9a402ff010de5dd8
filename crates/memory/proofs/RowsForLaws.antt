-- Laws of rows that are made for an index, as the walk uses them: the path goes on, and is changed behind the place that they depend on.
use Rattle.std.specs.Prelude.{◌≡◌, List, ℕ, suc, ◌-◌, ◌^◌, ◌≤◌, ℤ, take}
use Rattle.std.proofs.Common.{ap, sym, ◌∙◌, arith, mod-lt, take-take, pow_pos, pow_mono}
use Rattle.std.proofs.Math.Nat.{two-pow-succ}
use Rattle.std.proofs.Math.Pow.{split}
use Rattle.memory.specs.Memory.{start_of, RowsFor}
use Rattle.memory.proofs.RowLaws.{row_path}

module _ (m : ℕ) (l : List ℤ) (j b : ℕ) (s : List ℤ) where
  pub rows_for_less : (y : List ℕ) (a : ℕ) → a ≤ b → RowsFor m l y j b s → RowsFor m l y j a s
  rows_for_less y a h f = record { rows = λ t k e. f.rows t k (omega arith) }

  pub rows_for_path : (y z : List ℕ) → take b y ≡ take b z → RowsFor m l y j b s → RowsFor m l z j b s
  rows_for_path y z e f =
      record {
        rows = λ t k h.
            let same : take (start_of t j) y ≡ take (start_of t j) z =
            sym (take-take (start_of t j) b y h) ∙ ap (take (start_of t j)) e ∙ take-take (start_of t j) b z h in
            f.rows t k h ∙ row_path m l j y z (m - t) t (omega arith) same;
      }

-- no row of the last index starts at 0: nothing has to be made
pub rows_for_none : (m : ℕ) (l : List ℤ) (y : List ℕ) (s : List ℤ) → RowsFor m l y (2 ^ m - 1) 0 s
rows_for_none m l y s =
    record {
      rows = λ t k h. absurd (omega (arith, split (2 ^ m - 1) t, mod-lt (2 ^ m - 1) (pow_pos t), two-pow-succ t, pow_mono {i = suc t} {j = m} k, pow_pos t));
    }
