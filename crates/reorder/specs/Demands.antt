-- The demands on the calls (docs/RULES.md, §12): demand 1, with 11 exactly; the undo map that is handed back; two calls one after another; and two
-- searches, of readings and of reordered readings. Proved in Demand1Met, DemandsMet and ProductMet.
use Rattle.std.specs.Prelude.{◌≡◌, List, [], ℕ, ◌*◌, ◌^◌, ◌<◌, ℤ, pos, nat_abs, length}
use Rattle.words.specs.Kinds.{kinds, dimension, Word}
use Rattle.code.specs.declared.Refusal.TheVariants.{Parameters, InputLength, OutputLength, Entry, Map}
use Rattle.code.specs.Sound.{largest_m, largest_reading}
use Rattle.code.specs.Demand1.{View, Checks, passed, check, check_at, LowestBad, Demand1}
use Rattle.maps.specs.Maps as Maps
use Rattle.maps.specs.Maps.{reordered, Undoes, Undoable}
use Rattle.search.specs.Outcome as Search
use Rattle.search.specs.Demands.{SoundSearch}
use Rattle.reorder.specs.Outcome.{Outcome, done, reordering, reordering_word, undoing, multiplying}

-- only bits, and some table and row, of any kind, undo the map
abbrev pub Good : ℕ → List ℕ → List ℕ → Type 0
Good m A b = Maps.Map m A b × Undoable m A b

-- ---- the checks of the calls, in their order: 1, 2, 3, 11, then 4
-- the table is m by m, and the row m long
abbrev pub LongMap : ℕ → List ℕ → List ℕ → Type 0
LongMap m A b = (length A ≡ m * m) × (length b ≡ m)

-- by the lengths of the inputs, those of the outputs, and the maps
abbrev pub map_checks : ℕ → Type 0 → Type 0 → Type 0 → Checks → Checks
map_checks m inputs outputs maps rest =
    check Parameters (largest_m < m) (check InputLength (inputs → ⊥) (check OutputLength (outputs → ⊥) (check Map (maps → ⊥) rest)))

-- on entries of which none may have a size above the limit
abbrev pub entries_checks : {T : Type 0} → T → (T → ℕ) → ℕ → ℕ → List ℕ → List ℕ → List T → List T → Checks
entries_checks d size limit m A b l out =
    map_checks m (LongMap m A b × (length l ≡ 2 ^ m)) (length out ≡ 2 ^ m) (Good m A b) (check_at Entry (LowestBad d size limit l) passed)

abbrev pub reorder_checks : ℕ → List ℕ → List ℕ → List ℤ → List ℤ → Checks
reorder_checks = entries_checks (pos 0) nat_abs largest_reading

abbrev pub reorder_word_checks : ℕ → List ℕ → List ℕ → List ℕ → List ℕ → Checks
reorder_word_checks = entries_checks 0 (λ b. b) 1

abbrev pub undo_checks : ℕ → List ℕ → List ℕ → List ℕ → List ℕ → Checks
undo_checks m A b C c = map_checks m (LongMap m A b) (LongMap m C c) (Good m A b) passed

-- of either map
abbrev pub product_checks : ℕ → List ℕ → List ℕ → List ℕ → List ℕ → List ℕ → List ℕ → Checks
product_checks m A b C c D d = map_checks m (LongMap m A b × LongMap m C c) (LongMap m D d) (Good m A b × Good m C c) passed

-- what a call reports; what is lent comes beside it, since it is of another kind for each call
abbrev pub reorder_view : {B : Type 0} → Outcome B → View
reorder_view o =
    let c = o.carry in
    record { number = c.number; place = c.place; penalty = c.penalty; gap = 0; visits = c.visits; buffers = [] }

-- Demand 1: each number exactly if the first check that applies gives it, with what it carries; a refusal leaves what is lent unchanged
pub record ReorderDemand1 {B : Type 0} (checks : Checks) (lent : B) (o : Outcome B) : Type 0 where
  pub numbers : Demand1 checks [] (reorder_view o)
  pub kept : 0 < o.carry.number → o.lent ≡ lent

pub record ReorderDemands (m : ℕ) (A b : List ℕ) : Type 0 where
  pub by_reorder : (l out : List ℤ) → ReorderDemand1 (reorder_checks m A b l out) out (reordering m A b l out)
  pub by_reorder_word : (x out : List ℕ) → ReorderDemand1 (reorder_word_checks m A b x out) out (reordering_word m A b x out)
  pub by_undo : (C c : List ℕ) → ReorderDemand1 (undo_checks m A b C c) (C, c) (undoing m A b C c)
  pub by_product : (C c D d : List ℕ) → ReorderDemand1 (product_checks m A b C c D d) (D, d) (multiplying m A b C c D d)
  -- if nothing is refused, the undo map that is handed back undoes the map, applied before or after
  pub undone : (C c : List ℕ) → (undoing m A b C c).carry.number ≡ 0
      → let o = undoing m A b C c in Undoes m A b o.lent.0 o.lent.1 × Undoes m o.lent.0 o.lent.1 A b

-- ---- two calls
-- what `reorder` or `reorder_word` reports and leaves, from m, a table, a row, what is given, and the buffer for it
abbrev pub Call : Type 0 → Type 0
Call T = ℕ → List ℕ → List ℕ → List T → List T → Outcome (List T)

-- Reordering by (A, b) and then by (C, c) reports and leaves what reordering by the product from `product_map` does: with buffers D and d of a map's
-- lengths, and any buffer of 2^m entries for the one call.
pub record ByProduct {T : Type 0} (call : Call T) (m : ℕ) (A b C c : List ℕ) (l out out' out'' : List T) (D d : List ℕ) : Type 0 where
  pub product_done : (multiplying m A b C c D d).carry.number ≡ 0
  pub same : let product = (multiplying m A b C c D d).lent in
      call m product.0 product.1 l out'' ≡ call m C c (call m A b l out).lent out'

-- the same of `reorder`
abbrev pub OneThenAnother : ℕ → List ℕ → List ℕ → List ℕ → List ℕ → List ℤ → List ℤ → List ℤ → List ℤ → List ℕ → List ℕ → Type 0
OneThenAnother = ByProduct reordering

-- Reordering by (A, b) and then by the map that `undo_map` hands back is done, and leaves what was given.
pub record Restored {T : Type 0} (call : Call T) (m : ℕ) (A b : List ℕ) (l out out' : List T) (C c : List ℕ) : Type 0 where
  pub undo_done : (undoing m A b C c).carry.number ≡ 0
  pub restores : let undo = (undoing m A b C c).lent in
      call m undo.0 undo.1 (call m A b l out).lent out' ≡ done l

-- If a word of RM(r,m) is given, one is left.
abbrev pub SameCode : ℕ → List ℕ → List ℕ → List ℕ → List ℕ → Type 0
SameCode m A b x out = (r : ℕ) → Word m (kinds r m) x → Word m (kinds r m) (reordering_word m A b x out).lent

-- ---- two searches
-- two outcomes of the search with the same number, penalty and gap; if the best word is found, the second word is the first, reordered
pub record WordReordered (m : ℕ) (A b : List ℕ) (o o' : Search.Outcome) : Type 0 where
  pub same_number : o'.number ≡ o.number
  pub same_penalty : o'.penalty ≡ o.penalty
  pub same_gap : o'.gap ≡ o.gap
  pub word-reordered : o.number ≡ 0 → o'.word ≡ reordered 0 m A b o.word

-- if `reorder` is done: its readings l' are sound input of the search, as the given ones are, and if neither search is refused as 6,
-- their outcomes agree
pub record SearchReordered (r m : ℕ) (A b : List ℕ) (l l' : List ℤ) (bits word bits' word' : List ℕ) : Type 0 where
  pub sound : SoundSearch r m l bits word
  pub sound' : SoundSearch r m l' bits' word'
  pub together : (allowed allowed' : ℕ)
      → ((Search.searching r m allowed l bits word).number ≡ 6 → ⊥) → ((Search.searching r m allowed' l' bits' word').number ≡ 6 → ⊥)
      → WordReordered m A b (Search.searching r m allowed l bits word) (Search.searching r m allowed' l' bits' word')

-- the buffers of a search of RM(r,m)
pub record Buffers (r m : ℕ) (bits word : List ℕ) : Type 0 where
  pub long_bits : length bits ≡ dimension r m
  pub long_word : length word ≡ 2 ^ m
