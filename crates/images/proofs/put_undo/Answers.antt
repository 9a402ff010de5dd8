-- The table by its columns, the row as a table of one.
use Rattle.std.proofs.Common.{◌∙◌, ap, ℕ, ◌^◌, length, get_or, arith}
use Rattle.numbers.specs.Sums.{tabulate}
use Rattle.words.specs.Bits.{digit}
use Rattle.images.specs.ArrayLaws.{spread-table, spread_row}
use Rattle.images.specs.WorkLaws.{row_number}
use Rattle.images.proofs.put_undo.Goals as goal

pub returns : goal.returns
returns c =
    let s = c.args in
    let m = s.m in
    let places = s.places.now in
    let put = c.undo_columns in
    let is_row = c.from.ensures ∙ c.column.ensures ∙ row_number m s.row.now in
    record {
      table_is = c.spread.ensures ∙ spread-table (λ q. get_or places (2 ^ q) 0) m put.new.columns (length s.out.now) c.requires.0.table_long put.ensures;
      row_is =
          c.spread-2.ensures ∙ spread_row put.new.columns _ (length s.outrow.now) m (omega arith) c.requires.0.row_long
          ∙ ap (λ (x : ℕ). tabulate (λ p. digit p (get_or places x 0)) m) is_row;
    }
