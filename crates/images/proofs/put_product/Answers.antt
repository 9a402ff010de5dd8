-- The table by its columns, the row as a table of one.
use Rattle.std.proofs.Common.{◌∙◌, ap, ℕ, ◌+◌, ◌*◌, length, get_or, arith}
use Rattle.std.specs.Int.Bits.{bit_xor}
use Rattle.numbers.specs.Sums.{tabulate}
use Rattle.words.specs.Bits.{digit}
use Rattle.maps.specs.Maps.{number}
use Rattle.images.specs.ArrayLaws.{spread-table, spread_row}
use Rattle.images.specs.WorkLaws.{row_number}
use Rattle.images.proofs.put_product.Goals as goal

pub returns : goal.returns
returns c =
    let s = c.args in
    let m = s.second.now.m in
    let images = s.images.now in
    let put = c.product_columns in
    let f : ℕ → ℕ = λ q. get_or images (number m (λ p. get_or s.second.now.table.now (p * m + q) 0)) 0 in
    let is_row = c.from.ensures ∙ c.column.ensures ∙ row_number m s.second.now.row.now in
    record {
      table_is = c.spread.ensures ∙ spread-table f m put.new.columns (length s.out.now) c.requires.0.table_long put.ensures;
      row_is =
          c.spread-2.ensures ∙ spread_row put.new.columns _ (length s.outrow.now) m (omega arith) c.requires.0.row_long
          ∙ ap (λ (x : ℕ). tabulate (λ p. digit p (bit_xor (get_or images x 0) s.x)) m) is_row;
    }
