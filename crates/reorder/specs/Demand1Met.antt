-- The calls meet demand 1: each number exactly if the first check that applies gives it, 11 among them.
use Rattle.std.specs.Prelude.{◌≡◌, ◌↔◌, Bool, false, not, cond, ◌&&◌, ℤ, pos, length, ltb}
use Rattle.std.proofs.Math.Path.{refl, sym}
use Rattle.std.proofs.Common.{subst, ◌∙◌, inl, inr, ⊎_elim, arith, eq-eqb, eqb-true, lt-ltb, le-ltb}
use Rattle.std.proofs.Math.Bool.{true}
use mathlib.Core.List.{List, []}
use Prim.Native.Nat.{ℕ, ◌*◌, ◌^◌, ◌≤◌, ◌<◌}
use Rattle.std.proofs.Math.IntN.{nat_abs}
use Rattle.std.proofs.Math.Dec.{eqb}
use Rattle.numbers.specs.Choice.{lt_or_le}
use Rattle.words.specs.Bits.{Bits}
use Rattle.code.specs.declared.Refusal.{Refusal}
use Rattle.code.specs.declared.Refusal.TheVariants.{Parameters, InputLength, OutputLength, Entry, Map}
use Rattle.code.specs.Sound.{largest_m, largest_reading}
use Rattle.code.specs.Entries.{first_above, first_bad_bit}
use Rattle.code.specs.EntriesLaws.{first-none}
use Rattle.code.specs.Demand1.{Checks, passed, check_at, LowestBad}
use Rattle.code.specs.Demand1Laws.{Decides, demand_1, decides_entry}
use Rattle.maps.specs.Maps as Maps
use Rattle.maps.specs.Maps.{reordered, product_table, product_row, Undoes, Apart, undo_table, undo_row}
use Rattle.maps.proofs.UndoLaws.{undoable_apart, undo_before, undo_after}
use Rattle.maps.proofs.TestLaws.{can_undo_lem}
use Rattle.images.specs.Images.{is_map, Mapped}
use Rattle.images.specs.WorkLaws.{both_good, bits_map}
use Rattle.reorder.specs.Outcome.{Outcome, done, refused, is_long, sized, map_tested, entry_checked}
use Rattle.reorder.specs.Outcome.{reordering_entries, reordering, reordering_word, undoing, multiplying}
use Rattle.reorder.specs.Outcome.{undoing_long}
use Rattle.reorder.specs.OutcomeLaws.{both_true, AllRight, sized_right, map_allowed}
use Rattle.reorder.specs.Demands.{Good, LongMap, map_checks, entries_checks, reorder_checks, reorder_word_checks, undo_checks, product_checks, reorder_view}
use Rattle.reorder.specs.Demands.{ReorderDemand1, ReorderDemands}

-- ---- the test 11
pub all_bits_lem : (l : List ℕ) → Bits l → length l ≤ first_bad_bit l
all_bits_lem l h = let place = first-none 0 (λ b. b) 1 l (length l) (λ j k. omega (arith, h j)) refl in omega (arith, place)

pub map_exactly : (m : ℕ) (A b : List ℕ) → Mapped m A b → (is_map m A b ≡ true) ↔ Good m A b
map_exactly m A b long = (
  λ e.
      let bits = bits_map m A b e in
      let map : Maps.Map m A b = record {
        table_long = long.table_long;
        row_long = long.row_long;
        table_bits = bits.table_bits;
        row_bits = bits.row_bits;
      } in
      (map, (can_undo_lem m A b).0 bits.can),
  λ g. both_good m A b (all_bits_lem A g.0.table_bits) (all_bits_lem b g.0.row_bits) ∙ (can_undo_lem m A b).1 g.1,
)

-- ---- if nothing is refused
by_lengths : {B : Type 0} (lent : B) (rest : Outcome B) (m : ℕ) (inputs outputs : Bool) → m ≤ largest_m
    → (cond (not inputs) (refused lent InputLength) (cond (not outputs) (refused lent OutputLength) rest)).carry.number ≡ 0
    → AllRight m inputs outputs × (rest.carry.number ≡ 0)
by_lengths lent rest m false outputs h e = absurd (omega arith)
by_lengths lent rest m true false h e = absurd (omega arith)
by_lengths lent rest m true true h e = (record { small = h; inputs_right = refl; outputs_right = refl }, e)

pub sized-zero : {B : Type 0} (lent : B) (rest : Outcome B) (m : ℕ) (inputs outputs : Bool) → (sized lent m inputs outputs rest).carry.number ≡ 0
    → AllRight m inputs outputs × (rest.carry.number ≡ 0)
sized-zero lent rest m inputs outputs e =
    ⊎_elim
    (λ h. absurd (omega (arith, rw (lt-ltb largest_m m h) at e)))
    (λ h. by_lengths lent rest m inputs outputs h (rw (le-ltb largest_m m h) at e))
    (lt_or_le largest_m m)

pub map-zero : {B : Type 0} (lent : B) (rest : Outcome B) (maps : Bool) → (map_tested lent maps rest).carry.number ≡ 0
    → (maps ≡ true) × (rest.carry.number ≡ 0)
map-zero lent rest true e = (refl, e)
map-zero lent rest false e = absurd (omega arith)

pub entry_zero : {B : Type 0} (lent : B) (rest : Outcome B) (place n : ℕ) → (entry_checked lent place n rest).carry.number ≡ 0 → n ≤ place
entry_zero lent rest place n e = ⊎_elim (λ h. absurd (omega (arith, rw (lt-ltb place n h) at e))) (λ h. h) (lt_or_le place n)

-- ---- Demand 1: a test of the code decides a check
-- z is true exactly if P holds
decided : {Q : Type 0} (P : Type 0) (z : Bool) → (z ≡ true) ↔ P → (z ≡ true → P → Q) → (z ≡ false → (P → ⊥) → Q) → Q
decided P true exactly f g = f refl (exactly.0 refl)
decided P false exactly f g = g refl (λ p. let z : ◌≡◌ {A = ℕ} 0 1 = cc (exactly.1 p) in absurd (omega arith))

both_exactly : (x y : Bool) (P Q : Type 0) → (x ≡ true) ↔ P → (y ≡ true) ↔ Q → (x && y ≡ true) ↔ (P × Q)
both_exactly x y P Q f g = (
  λ e. let two = both_true x y e in (f.0 two.0, g.0 two.1),
  λ p. rw (f.1 p.0, g.1 p.1),
)

equal_exactly : (x y : ℕ) → (eqb x y ≡ true) ↔ (x ≡ y)
equal_exactly x y = (eqb-true x y, eq-eqb x y)

long_exactly : (m : ℕ) (A b : List ℕ) → (is_long m (length A) (length b) ≡ true) ↔ LongMap m A b
long_exactly m A b =
    both_exactly (eqb (length A) (m * m)) (eqb (length b) m) (length A ≡ m * m) (length b ≡ m) (equal_exactly (length A) (m * m)) (equal_exactly (length b) m)

module _ {B : Type 0} (lent : B) where
  -- 1, 2, 3 and 11, and then what follows; that the maps are tested exactly may use what the tests before have shown
  map_decides : (m : ℕ) (inputs outputs maps : Bool) (P Q R : Type 0) → (inputs ≡ true) ↔ P → (outputs ≡ true) ↔ Q
      → (m ≤ largest_m → P → (maps ≡ true) ↔ R) → (rest : Outcome B) (checks : Checks) → Decides [] (reorder_view rest) checks
      → Decides [] (reorder_view (sized lent m inputs outputs (map_tested lent maps rest))) (map_checks m P Q R checks)
  map_decides m inputs outputs maps P Q R in-iff out-iff map_iff rest checks after =
      ⊎_elim
      (λ h. inl (h, rw (lt-ltb largest_m m h)))
      (λ h. inr (
        λ k. omega arith,
        decided P inputs in-iff
            (λ e p. inr (
              λ f. f p,
              decided Q outputs out-iff
                  (λ e' q. inr (
                    λ f. f q,
                    decided R maps (map_iff h p)
                        (λ e'' r.
                        let same : rest ≡ sized lent m inputs outputs (map_tested lent maps rest) = rw (le-ltb largest_m m h, e, e', e'') in
                        inr (λ f. f r, subst (λ (o : Outcome B). Decides [] (reorder_view o) checks) same after))
                        (λ e'' r. inl (r, rw (le-ltb largest_m m h, e, e', e''))),
                  ))
                  (λ e' q. inl (q, rw (le-ltb largest_m m h, e, e'))),
            ))
            (λ e p. inl (p, rw (le-ltb largest_m m h, e))),
      ))
      (lt_or_le largest_m m)

  -- 4, by the lowest bad place
  entry_decides : {A : Type 0} (d : A) (size : A → ℕ) (limit : ℕ) (l : List A) (x : B)
      → Decides [] (reorder_view (entry_checked lent (first_above size limit l) (length l) (done x))) (check_at Entry (LowestBad d size limit l) passed)
  entry_decides d size limit l x =
      let place = first_above size limit l in
      decides_entry d size limit l [] (reorder_view (entry_checked lent place (length l) (done x))) passed
      (λ h. rw (lt-ltb place (length l) h))
      (λ h. rw (le-ltb place (length l) h) (refl, refl))

  -- what is lent stays unchanged if anything is refused
  Kept : Outcome B → Type 0
  Kept o = 0 < o.carry.number → o.lent ≡ lent

  kept_either : (z : Bool) (o p : Outcome B) → Kept o → Kept p → Kept (cond z o p)
  kept_either true o p f g = f
  kept_either false o p f g = g

  kept_refused : (why : Refusal) → Kept (refused lent why)
  unfolding Kept
  kept_refused why h = refl

  kept_map : (m : ℕ) (inputs outputs maps : Bool) (rest : Outcome B) → Kept rest → Kept (sized lent m inputs outputs (map_tested lent maps rest))
  kept_map m inputs outputs maps rest k =
      let o = map_tested lent maps rest in
      let p = cond (not outputs) (refused lent OutputLength) o in
      kept_either (ltb largest_m m) (refused lent Parameters) (cond (not inputs) (refused lent InputLength) p) (kept_refused Parameters)
      (kept_either (not inputs) (refused lent InputLength) p (kept_refused InputLength)
      (kept_either (not outputs) (refused lent OutputLength) o (kept_refused OutputLength)
      (kept_either (not maps) (refused lent Map) rest (kept_refused Map) k)))

  kept_done : (x : B) → Kept (done x)
  unfolding Kept
  kept_done x h = absurd (omega arith)

  kept_entry : (place n : ℕ) (x : B) → Kept (entry_checked lent place n (done x))
  kept_entry place n x = kept_either (ltb place n) (refused lent (Entry place)) (done x) (kept_refused (Entry place)) (kept_done x)

  -- both, for a call
  met : (m : ℕ) (inputs outputs maps : Bool) (P Q R : Type 0) → (inputs ≡ true) ↔ P → (outputs ≡ true) ↔ Q → (m ≤ largest_m → P → (maps ≡ true) ↔ R)
      → (rest : Outcome B) (checks : Checks) → Decides [] (reorder_view rest) checks → Kept rest
      → ReorderDemand1 (map_checks m P Q R checks) lent (sized lent m inputs outputs (map_tested lent maps rest))
  unfolding Kept
  met m inputs outputs maps P Q R in-iff out-iff map_iff rest checks after k =
      let o = sized lent m inputs outputs (map_tested lent maps rest) in
      record {
        numbers =
            demand_1 [] (reorder_view o) (map_checks m P Q R checks)
            (map_decides m inputs outputs maps P Q R in-iff out-iff map_iff rest checks after);
        kept = kept_map m inputs outputs maps rest k;
      }

module _ (m : ℕ) (A b : List ℕ) where
  good_exactly : m ≤ largest_m → LongMap m A b → (is_map m A b ≡ true) ↔ Good m A b
  good_exactly h p = map_exactly m A b (record { small = h; table_long = p.0; row_long = p.1 })

  -- for a map and n entries
  with_entries : (n : ℕ) → (is_long m (length A) (length b) && eqb n (2 ^ m) ≡ true) ↔ (LongMap m A b × (n ≡ 2 ^ m))
  with_entries n = both_exactly (is_long m (length A) (length b)) (eqb n (2 ^ m)) (LongMap m A b) (n ≡ 2 ^ m) (long_exactly m A b) (equal_exactly n (2 ^ m))

  entries_met : {T : Type 0} (d : T) (size : T → ℕ) (limit : ℕ) (l out : List T)
      → ReorderDemand1 (entries_checks d size limit m A b l out) out (reordering_entries d size limit m A b l out)
  entries_met d size limit l out =
      let place = first_above size limit l in
      let moved = reordered d m A b l in
      met out m (is_long m (length A) (length b) && eqb (length l) (2 ^ m)) (eqb (length out) (2 ^ m)) (is_map m A b) (LongMap m A b × (length l ≡ 2 ^ m))
      (length out ≡ 2 ^ m) (Good m A b) (with_entries (length l)) (equal_exactly (length out) (2 ^ m)) (λ h p. good_exactly h p.0)
      (entry_checked out place (length l) (done moved)) (check_at Entry (LowestBad d size limit l) passed)
      (entry_decides out d size limit l moved) (kept_entry out place (length l) moved)

  reorder_met : (l out : List ℤ) → ReorderDemand1 (reorder_checks m A b l out) out (reordering m A b l out)
  unfolding reordering
  reorder_met = entries_met (pos 0) nat_abs largest_reading

  reorder_word_met : (x out : List ℕ) → ReorderDemand1 (reorder_word_checks m A b x out) out (reordering_word m A b x out)
  unfolding reordering_word
  reorder_word_met = entries_met 0 (λ b. b) 1

  undo_met : (C c : List ℕ) → ReorderDemand1 (undo_checks m A b C c) (C, c) (undoing m A b C c)
  unfolding undoing
  undo_met C c =
      met (C, c) m (is_long m (length A) (length b)) (is_long m (length C) (length c)) (is_map m A b) (LongMap m A b) (LongMap m C c) (Good m A b)
      (long_exactly m A b) (long_exactly m C c) good_exactly (done (undo_table m A, undo_row m A b)) passed (refl, refl)
      (kept_done (C, c) (undo_table m A, undo_row m A b))

  -- if it is done, the map is a map, and its undo map is handed back
  undo_given : (C c : List ℕ) → (undoing m A b C c).carry.number ≡ 0
      → let o = undoing m A b C c in Undoes m A b o.lent.0 o.lent.1 × Undoes m o.lent.0 o.lent.1 A b
  unfolding undoing
  undo_given C c e =
      let rest : Outcome (List ℕ × List ℕ) = done (undo_table m A, undo_row m A b) in
      let sizes = sized-zero (C, c) (undoing_long m A b C c) m (is_long m (length A) (length b)) (is_long m (length C) (length c)) e in
      let is-map = (map-zero (C, c) rest (is_map m A b) sizes.1).0 in
      let given : undoing m A b C c ≡ rest =
      sym (map_allowed (C, c) rest (is_map m A b) is-map ∙ sized_right (C, c) (undoing_long m A b C c) m _ _ sizes.0) in
      let good = (good_exactly sizes.0.small ((long_exactly m A b).0 sizes.0.inputs_right)).0 is-map in
      let apart : Apart (2 ^ m) _ = (undoable_apart m A b).0 good.1 in
      rw given (undo_after m A b apart, undo_before m A b apart)

product_met : (m : ℕ) (A b C c D d : List ℕ) → ReorderDemand1 (product_checks m A b C c D d) (D, d) (multiplying m A b C c D d)
unfolding multiplying
product_met m A b C c D d =
    met (D, d) m (is_long m (length A) (length b) && is_long m (length C) (length c)) (is_long m (length D) (length d)) (is_map m A b && is_map m C c)
    (LongMap m A b × LongMap m C c) (LongMap m D d) (Good m A b × Good m C c)
    (both_exactly (is_long m (length A) (length b)) (is_long m (length C) (length c)) (LongMap m A b) (LongMap m C c) (long_exactly m A b) (long_exactly m C c))
    (long_exactly m D d)
    (λ h p. both_exactly (is_map m A b) (is_map m C c) (Good m A b) (Good m C c) (good_exactly m A b h p.0) (good_exactly m C c h p.1))
    (done (product_table m A C, product_row m A b c)) passed (refl, refl) (kept_done (D, d) (product_table m A C, product_row m A b c))

pub reorder_demands : (m : ℕ) (A b : List ℕ) → ReorderDemands m A b
reorder_demands m A b = record {
  by_reorder = reorder_met m A b;
  by_reorder_word = reorder_word_met m A b;
  by_undo = undo_met m A b;
  by_product = product_met m A b;
  undone = undo_given m A b;
}
