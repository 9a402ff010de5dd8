-- What `reorder`, `reorder_word`, `undo_map` and `product_map` report and leave, for every input (docs/RULES.md, §12).
use Rattle.std.specs.Prelude.{List, Bool, not, cond, ◌&&◌, ℕ, ◌^◌, ℤ, pos, nat_abs, length, ltb, eqb, Result, Ok, Err}
use Rattle.code.specs.declared.Refusal.{Refusal}
use Rattle.code.specs.declared.Refusal.TheVariants.{Parameters, InputLength, OutputLength, Entry, Map}
use Rattle.code.specs.Sound.{largest_m, largest_reading, Carried, completed}
use Rattle.code.specs.Entries.{first_above}
use Rattle.maps.specs.Maps.{reordered, product_table, product_row, undo_table, undo_row}
pub use Rattle.images.specs.Images.{is_long}
use Rattle.images.specs.Images.{is_map}

-- B is what is lent to be written: one buffer, or two
pub record Outcome (B : Type 0) : Type 0 where
  -- all 0 if the call is done, else what the refusal carries
  pub carry : Carried
  -- what is lent, as the call leaves it
  pub lent : B

-- the answer in the rules' numbers
abbrev pub outcome_of : {B : Type 0} → Result (Unit {0}) Refusal → B → Outcome B
outcome_of answer lent = record { carry = completed answer; lent = lent }

abbrev pub done : {B : Type 0} → B → Outcome B
done lent = outcome_of (Ok tt) lent

-- what is lent keeps its contents
abbrev pub refused : {B : Type 0} → B → Refusal → Outcome B
refused lent why = outcome_of (Err why) lent

-- ---- the tests
-- 1, 2 and 3 in their order, by whether the inputs' and the outputs' lengths are right; `rest` if no test applies
abbrev pub sized : {B : Type 0} → B → ℕ → Bool → Bool → Outcome B → Outcome B
sized lent m inputs outputs rest =
    cond (ltb largest_m m) (refused lent Parameters)
    (cond (not inputs) (refused lent InputLength)
    (cond (not outputs) (refused lent OutputLength) rest))

-- then 11, by whether every map is one
abbrev pub map_tested : {B : Type 0} → B → Bool → Outcome B → Outcome B
map_tested lent maps rest = cond (not maps) (refused lent Map) rest

-- then 4, by the lowest bad place among n entries
abbrev pub entry_checked : {B : Type 0} → B → ℕ → ℕ → Outcome B → Outcome B
entry_checked lent place n rest = cond (ltb place n) (refused lent (Entry place)) rest

-- ---- the outcomes if all lengths are right
-- from m, a table, a row, entries of which none may have a size above the limit, and the buffer for the reordered ones; d is any entry
abbrev pub reordering_entries_long : {T : Type 0} → T → (T → ℕ) → ℕ → ℕ → List ℕ → List ℕ → List T → List T → Outcome (List T)
reordering_entries_long d size limit m A b l out =
    map_tested out (is_map m A b) (entry_checked out (first_above size limit l) (length l) (done (reordered d m A b l)))

-- from m, a table, a row, and the buffers for those of the undo map
abbrev pub undoing_long : ℕ → List ℕ → List ℕ → List ℕ → List ℕ → Outcome (List ℕ × List ℕ)
undoing_long m A b C c = map_tested (C, c) (is_map m A b) (done (undo_table m A, undo_row m A b))

-- from m, the first map's table and row, the second's, and the buffers for the product's
abbrev pub multiplying_long : ℕ → List ℕ → List ℕ → List ℕ → List ℕ → List ℕ → List ℕ → Outcome (List ℕ × List ℕ)
multiplying_long m A b C c D d = map_tested (D, d) (is_map m A b && is_map m C c) (done (product_table m A C, product_row m A b c))

-- ---- the outcomes
abbrev pub reordering_entries : {T : Type 0} → T → (T → ℕ) → ℕ → ℕ → List ℕ → List ℕ → List T → List T → Outcome (List T)
reordering_entries d size limit m A b l out =
    sized out m (is_long m (length A) (length b) && eqb (length l) (2 ^ m)) (eqb (length out) (2 ^ m))
    (reordering_entries_long d size limit m A b l out)

unfoldable pub reordering : ℕ → List ℕ → List ℕ → List ℤ → List ℤ → Outcome (List ℤ)
reordering = reordering_entries (pos 0) nat_abs largest_reading

unfoldable pub reordering_word : ℕ → List ℕ → List ℕ → List ℕ → List ℕ → Outcome (List ℕ)
reordering_word = reordering_entries 0 (λ b. b) 1

unfoldable pub undoing : ℕ → List ℕ → List ℕ → List ℕ → List ℕ → Outcome (List ℕ × List ℕ)
undoing m A b C c = sized (C, c) m (is_long m (length A) (length b)) (is_long m (length C) (length c)) (undoing_long m A b C c)

unfoldable pub multiplying : ℕ → List ℕ → List ℕ → List ℕ → List ℕ → List ℕ → List ℕ → Outcome (List ℕ × List ℕ)
multiplying m A b C c D d =
    sized (D, d) m (is_long m (length A) (length b) && is_long m (length C) (length c)) (is_long m (length D) (length d)) (multiplying_long m A b C c D d)
