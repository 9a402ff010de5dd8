-- What is stated about position orders holds, for every m, every table and every row.
use Rattle.std.specs.Prelude.{List, ℕ, pos}
use Rattle.maps.specs.Maps.{undo_table, undo_row}
use Rattle.maps.specs.ImageLaws.{word-reordered}
use Rattle.maps.proofs.ProductLaws.{product-map, reordered_product}
use Rattle.maps.proofs.UndoLaws.{reordered_undone, undo_before, undo_after, undo-map, undoable_apart, product_undoable}
use Rattle.maps.proofs.TestLaws.{can_undo_lem}
use Rattle.maps.proofs.ReorderedBest.{penalty-reordered, within_reordered, least_kept, gap_kept, best_word-reordered, answers_alongside}
use Rattle.maps.specs.PositionOrders.{Orders, PositionOrders}

orders : {T : Type 0} (d : T) (m : ℕ) (A b : List ℕ) (l : List T) → Orders d m A b l
orders d m A b l =
    let U = undo_table m A in
    let u = undo_row m A b in
    record {
      one_then_another = λ C c. reordered_product m A b C c d l;
      restored = λ can e. reordered_undone m U u A b (undo_before m A b ((undoable_apart m A b).0 can)) d l e;
      restored_before = λ can e. reordered_undone m A b U u (undo_after m A b ((undoable_apart m A b).0 can)) d l e;
    }

pub position_orders : (m : ℕ) (A b : List ℕ) → PositionOrders m A b
position_orders m A b = record {
  readings = orders (pos 0) m A b;
  bits = orders 0 m A b;
  maps_again = record {
    product-map = product-map m A b;
    product_undoable = product_undoable m A b;
    undo-map = undo-map m A b;
    undo_undoes = λ can. undo_after m A b ((undoable_apart m A b).0 can);
    undo_undone = λ can. undo_before m A b ((undoable_apart m A b).0 can);
    undoable_exactly = undoable_apart m A b;
    tested = can_undo_lem m A b;
  };
  same_code = λ r x. word-reordered r m A b x;
  same_best = λ r l can e.
      let C = can.table in
      let c = can.row in
      let undoes = can.undoes in
      record {
        readings_allowed = λ largest h. within_reordered largest m A b l h;
        penalty_equal = λ x f. penalty-reordered m A b C c undoes l x e f;
        least_equal = least_kept r m l e A b C c undoes;
        gap_equal = gap_kept r m l e A b C c undoes;
        best_reordered = best_word-reordered r m l e A b C c undoes;
        together = answers_alongside r m l e A b C c undoes;
      };
}
