-- Over what the calls report and leave, of readings and of words: reordering by one call and then by another is reordering by their product, the undo
-- map restores the order, and a word of RM(r,m) stays one.
use Rattle.std.specs.Prelude.{◌≡◌, refl, List, ℕ, ◌^◌, ◌≤◌, ℤ, pos, nat_abs, length, get_or}
use Rattle.std.proofs.Common.{ap, sym, ◌∙◌, arith}
use Rattle.words.specs.Bits.{Bits}
use Rattle.decoding.specs.Readings.{Within}
use Rattle.code.specs.Sound.{largest_reading}
use Rattle.code.specs.Entries.{first_bad_reading}
use Rattle.code.specs.EntriesLaws.{first-none}
use Rattle.maps.specs.Maps.{Undoable, image, reordered, product_table, product_row, undo_table, undo_row}
use Rattle.maps.specs.PositionOrders.{Orders}
use Rattle.maps.specs.DegreeLaws.{bits_values}
use Rattle.maps.specs.ImageLaws.{length-reordered, word-reordered}
use Rattle.maps.proofs.ReorderedBest.{within_reordered}
use Rattle.maps.proofs.PositionOrdersMet.{position_orders}
use Rattle.images.specs.Images.{Mapped}
use Rattle.reorder.specs.Outcome.{Outcome, done, reordering, reordering_word, undoing, multiplying}
use Rattle.reorder.specs.Demands.{Good, LongMap, OneThenAnother, Call, ByProduct, Restored, SameCode}
use Rattle.reorder.specs.OutcomeLaws.{reordering_does, undoing_does, multiplying_does}
use Rattle.reorder.specs.Demand1Met.{all_bits_lem, map_exactly}
use Rattle.reorder.specs.DemandsMet.{CallDone, reorder_done, reorder_word_done}

all_within : (l : List ℤ) → Within largest_reading l → length l ≤ first_bad_reading largest_reading l
all_within l h = let place = first-none (pos 0) nat_abs largest_reading l (length l) (λ j k. h j) refl in omega (arith, place)

-- if no test applies
reorder_does : (m : ℕ) (A b : List ℕ) (l out : List ℤ) → Mapped m A b → Good m A b → length l ≡ 2 ^ m → Within largest_reading l → length out ≡ 2 ^ m
    → reordering m A b l out ≡ done (reordered (pos 0) m A b l)
unfolding reordering
reorder_does m A b l out map good long within =
    reordering_does m A b map ((map_exactly m A b map).1 good) (pos 0) nat_abs largest_reading l out long (all_within l within)

reorder_word_does : (m : ℕ) (A b x out : List ℕ) → Mapped m A b → Good m A b → length x ≡ 2 ^ m → Bits x → length out ≡ 2 ^ m
    → reordering_word m A b x out ≡ done (reordered 0 m A b x)
unfolding reordering_word
reorder_word_does m A b x out map good long bits =
    reordering_does m A b map ((map_exactly m A b map).1 good) 0 (λ b. b) 1 x out long (all_bits_lem x bits)

undo_does : (m : ℕ) (A b C c : List ℕ) → Mapped m A b → Good m A b → LongMap m C c → undoing m A b C c ≡ done (undo_table m A, undo_row m A b)
undo_does m A b C c map good room =
    undoing_does m A b map ((map_exactly m A b map).1 good) C c (record { small = map.small; table_long = room.0; row_long = room.1 })

multiply_does : (m : ℕ) (A b C c D d : List ℕ) → Mapped m A b → Good m A b → Mapped m C c → Good m C c → LongMap m D d
    → multiplying m A b C c D d ≡ done (product_table m A C, product_row m A b c)
multiply_does m A b C c D d map good map' good' room =
    multiplying_does m A b map ((map_exactly m A b map).1 good) C c map' D d
    (record { small = map.small; table_long = room.0; row_long = room.1 }) ((map_exactly m C c map').1 good')

-- ---- of either call, if it does its work where no test applies
module _ {T : Type 0} (d : T) (Fine : List T → Type 0) (call : Call T)
    (does : (m : ℕ) (A b : List ℕ) (l out : List T) → Mapped m A b → Good m A b → length l ≡ 2 ^ m → Fine l → length out ≡ 2 ^ m
    → call m A b l out ≡ done (reordered d m A b l)) where
  another : (m : ℕ) (A b C c : List ℕ) (l out out' out'' : List T) (D e : List ℕ) → Orders d m A b l
      → CallDone d Fine m A b l out (call m A b l out).lent
      → CallDone d Fine m C c (call m A b l out).lent out' (call m C c (call m A b l out).lent out').lent
      → length out'' ≡ 2 ^ m → LongMap m D e → ByProduct call m A b C c l out out' out'' D e
  another m A b C c l out out' out'' D e orders x y room'' room =
      let l' = (call m A b l out).lent in
      let again = (position_orders m A b).maps_again in
      let P = product_table m A C in
      let p = product_row m A b c in
      let is-map = again.product-map C c in
      let map : Mapped m P p = record { small = x.map_long.small; table_long = is-map.table_long; row_long = is-map.row_long } in
      let good : Good m P p = (is-map, again.product_undoable C c x.good.1 y.good.1) in
      let made = multiply_does m A b C c D e x.map_long x.good y.map_long y.good room in
      let twice : call m C c l' out' ≡ done (reordered d m C c (reordered d m A b l)) =
      does m C c l' out' y.map_long y.good y.long y.fine y.room
      ∙ ap (λ (k : List T). done (reordered d m C c k)) x.leaves in
      let once : call m P p l out'' ≡ done (reordered d m P p l) = does m P p l out'' map good x.long x.fine room'' in
      record {
        product_done = ap (λ (o : Outcome (List ℕ × List ℕ)). o.carry.number) made;
        same =
            ap (λ (o : Outcome (List ℕ × List ℕ)). call m o.lent.0 o.lent.1 l out'') made
            ∙ once
            ∙ ap done (sym (orders.one_then_another C c))
            ∙ sym twice;
      }

  back : (m : ℕ) (A b : List ℕ) (l out out' : List T) (C c : List ℕ) → Orders d m A b l → Fine (reordered d m A b l)
      → CallDone d Fine m A b l out (call m A b l out).lent → length out' ≡ 2 ^ m → LongMap m C c → Restored call m A b l out out' C c
  back m A b l out out' C c orders fine x room' room =
      let again = (position_orders m A b).maps_again in
      let U = undo_table m A in
      let u = undo_row m A b in
      let is-map = again.undo-map in
      let map : Mapped m U u = record { small = x.map_long.small; table_long = is-map.table_long; row_long = is-map.row_long } in
      let undoable : Undoable m U u = record { table = A; row = b; undoes = again.undo_undone x.good.1 } in
      let made = undo_does m A b C c x.map_long x.good room in
      record {
        undo_done = ap (λ (o : Outcome (List ℕ × List ℕ)). o.carry.number) made;
        restores =
            ap (λ (o : Outcome (List ℕ × List ℕ)). call m o.lent.0 o.lent.1 (call m A b l out).lent out') made
            ∙ ap (λ (k : List T). call m U u k out') x.leaves
            ∙ does m U u (reordered d m A b l) out' map (is-map, undoable) (length-reordered d m A b l) fine room'
            ∙ ap done (orders.restored x.good.1 x.long);
      }

-- ---- of `reorder`: the calls are done, and the buffers for the product, for the undo map and for one call more have their lengths
module _ (m : ℕ) (A b C c : List ℕ) (l out out' out'' : List ℤ) (D d : List ℕ) where
  -- the two calls are done, and the buffers for the product and for the one call have their lengths
  pub one_then_another_done : (reordering m A b l out).carry.number ≡ 0 → (reordering m C c (reordering m A b l out).lent out').carry.number ≡ 0
      → length out'' ≡ 2 ^ m → LongMap m D d → OneThenAnother m A b C c l out out' out'' D d
  one_then_another_done e f =
      another (pos 0) (Within largest_reading) reordering reorder_does m A b C c l out out' out'' D d ((position_orders m A b).readings l)
      (reorder_done m A b l out e) (reorder_done m C c (reordering m A b l out).lent out' f)

module _ (m : ℕ) (A b : List ℕ) (l out : List ℤ) (first_done : (reordering m A b l out).carry.number ≡ 0) where
  pub restored_done : (out' : List ℤ) (C c : List ℕ) → length out' ≡ 2 ^ m → LongMap m C c → Restored reordering m A b l out out' C c
  restored_done out' C c =
      let x = reorder_done m A b l out first_done in
      back (pos 0) (Within largest_reading) reordering reorder_does m A b l out out' C c ((position_orders m A b).readings l)
      (within_reordered largest_reading m A b l x.fine) x

-- ---- of `reorder_word`
bits_reordered : (m : ℕ) (A b x : List ℕ) → Bits x → Bits (reordered 0 m A b x)
unfolding reordered
bits_reordered m A b x h = bits_values (λ j. get_or x (image m A b j) 0) (2 ^ m) (λ j k. h (image m A b j))

module _ (m : ℕ) (A b x out : List ℕ) (first_done : (reordering_word m A b x out).carry.number ≡ 0) where
  pub word_then_another_done : (C c out' out'' D d : List ℕ)
      → (reordering_word m C c (reordering_word m A b x out).lent out').carry.number ≡ 0
      → length out'' ≡ 2 ^ m → LongMap m D d → ByProduct reordering_word m A b C c x out out' out'' D d
  word_then_another_done C c out' out'' D d e =
      another 0 Bits reordering_word reorder_word_does m A b C c x out out' out'' D d ((position_orders m A b).bits x)
      (reorder_word_done m A b x out first_done) (reorder_word_done m C c (reordering_word m A b x out).lent out' e)

  pub word_restored_done : (out' C c : List ℕ) → length out' ≡ 2 ^ m → LongMap m C c → Restored reordering_word m A b x out out' C c
  word_restored_done out' C c =
      let y = reorder_word_done m A b x out first_done in
      back 0 Bits reordering_word reorder_word_does m A b x out out' C c ((position_orders m A b).bits x) (bits_reordered m A b x y.fine) y

  pub word_same_code : SameCode m A b x out
  word_same_code r w = rw (reorder_word_done m A b x out first_done).leaves (word-reordered r m A b x w)
