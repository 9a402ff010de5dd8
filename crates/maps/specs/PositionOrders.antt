-- What is proved about position orders (docs/RULES.md, §12), over the definitions of Maps. That it holds for every map and every m is proved in
-- PositionOrdersMet.
use Rattle.std.specs.Prelude.{◌≡◌, ◌↔◌, true, List, ℕ, ◌^◌, ◌<◌, length, ℤ, pos}
use Rattle.words.specs.Kinds.{kinds, Word}
use Rattle.decoding.specs.Readings.{penalty, Within}
use Rattle.decoding.specs.Best.{least_penalty, gap, best_word}
use Rattle.decoding.specs.Answer.{out_of_visits, answer}
use Rattle.maps.specs.Maps.{Map, image, reordered, product_table, product_row, Undoes, Undoable, Apart, can_undo, undo_table, undo_row, Alongside}

-- Reordering by one and then by another equals reordering by their product, and the undo map restores the order: for readings, and for bits.
pub record Orders {T : Type 0} (d : T) (m : ℕ) (A b : List ℕ) (l : List T) : Type 0 where
  pub one_then_another : (C c : List ℕ) → reordered d m C c (reordered d m A b l) ≡ reordered d m (product_table m A C) (product_row m A b c) l
  pub restored : Undoable m A b → length l ≡ 2 ^ m → reordered d m (undo_table m A) (undo_row m A b) (reordered d m A b l) ≡ l
  pub restored_before : Undoable m A b → length l ≡ 2 ^ m → reordered d m A b (reordered d m (undo_table m A) (undo_row m A b) l) ≡ l

-- Products and undo maps are maps, and can be undone. A map can be undone, by a table and a row of any kind, exactly if no two images are equal, and
-- exactly if the test says so.
pub record MapsAgain (m : ℕ) (A b : List ℕ) : Type 0 where
  pub product-map : (C c : List ℕ) → Map m (product_table m A C) (product_row m A b c)
  pub product_undoable : (C c : List ℕ) → Undoable m A b → Undoable m C c → Undoable m (product_table m A C) (product_row m A b c)
  pub undo-map : Map m (undo_table m A) (undo_row m A b)
  pub undo_undoes : Undoable m A b → Undoes m A b (undo_table m A) (undo_row m A b)
  pub undo_undone : Undoable m A b → Undoes m (undo_table m A) (undo_row m A b) A b
  pub undoable_exactly : Undoable m A b ↔ Apart (2 ^ m) (image m A b)
  pub tested : (can_undo m A ≡ true) ↔ Undoable m A b

-- The best word of reordered readings is the reordered best word, with equal penalty and gap, if both walks stay within their allowance.
pub record ReorderedReadings (r m : ℕ) (A b : List ℕ) (l : List ℤ) : Type 0 where
  pub readings_allowed : (largest : ℕ) → Within largest l → Within largest (reordered (pos 0) m A b l)
  pub penalty_equal : (x : List ℕ) → length x ≡ 2 ^ m → penalty (reordered (pos 0) m A b l) (reordered 0 m A b x) ≡ penalty l x
  pub least_equal : least_penalty m (kinds r m) (reordered (pos 0) m A b l) ≡ least_penalty m (kinds r m) l
  pub gap_equal : gap m (kinds r m) (reordered (pos 0) m A b l) ≡ gap m (kinds r m) l
  pub best_reordered : 0 < gap m (kinds r m) l → best_word m (kinds r m) (reordered (pos 0) m A b l) ≡ reordered 0 m A b (best_word m (kinds r m) l)
  pub together : (allowed allowed' : ℕ) → (answer m (kinds r m) l allowed ≡ out_of_visits → ⊥)
      → (answer m (kinds r m) (reordered (pos 0) m A b l) allowed' ≡ out_of_visits → ⊥)
      → Alongside m A b (answer m (kinds r m) l allowed) (answer m (kinds r m) (reordered (pos 0) m A b l) allowed')

pub record PositionOrders (m : ℕ) (A b : List ℕ) : Type 0 where
  pub readings : (l : List ℤ) → Orders (pos 0) m A b l
  pub bits : (x : List ℕ) → Orders 0 m A b x
  pub maps_again : MapsAgain m A b
  -- a reordered codeword is a codeword of the same code, by any map
  pub same_code : (r : ℕ) (x : List ℕ) → Word m (kinds r m) x → Word m (kinds r m) (reordered 0 m A b x)
  pub same_best : (r : ℕ) (l : List ℤ) → Undoable m A b → length l ≡ 2 ^ m → ReorderedReadings r m A b l
