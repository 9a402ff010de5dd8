-- What the calls report and leave if no test applies, and what holds if the tests on lengths find nothing.
use Rattle.std.specs.Prelude.{◌≡◌, refl, Bool, true, false, ◌&&◌, List, ℕ, ◌*◌, ◌^◌, ◌≤◌, ◌<◌, length, eqb}
use Rattle.std.proofs.Common.{sym, ◌∙◌, arith, eq-eqb, eqb-true, lt-ltb, le-ltb}
use Rattle.std.proofs.Math.Bool.{and-true, and-false}
use Rattle.code.specs.declared.Refusal.TheVariants.{Entry, Map}
use Rattle.code.specs.Sound.{largest_m}
use Rattle.code.specs.Entries.{first_above}
use Rattle.maps.specs.Maps.{reordered, product_table, product_row, undo_table, undo_row}
use Rattle.images.specs.Images.{is_long, is_map, Mapped}
use Rattle.reorder.specs.Outcome.{Outcome, done, refused, sized, map_tested, entry_checked, reordering_entries, undoing, multiplying}

pub both_true : (x y : Bool) → x && y ≡ true → (x ≡ true) × (y ≡ true)
both_true true y e = (refl, e)
both_true false y e = let z : ◌≡◌ {A = ℕ} 0 1 = cc e in absurd (omega arith)

-- all lengths are right
pub record AllRight (m : ℕ) (inputs outputs : Bool) : Type 0 where
  pub small : m ≤ largest_m
  pub inputs_right : inputs ≡ true
  pub outputs_right : outputs ≡ true

-- ---- 11 and 4
module _ {B : Type 0} (lent : B) (rest : Outcome B) where
  pub map-refused : (good maps : Bool) → good ≡ maps → good ≡ false → refused lent Map ≡ map_tested lent maps rest
  map-refused good maps e f = rw (← e, f)

  pub map_allowed : (maps : Bool) → maps ≡ true → rest ≡ map_tested lent maps rest
  map_allowed maps f = rw f

  pub entry-refused : (place first n : ℕ) → place ≡ first → place < n → refused lent (Entry place) ≡ entry_checked lent first n rest
  entry-refused place first n e h = rw (← e, lt-ltb place n h)

  pub entry_allowed : (place n : ℕ) → n ≤ place → rest ≡ entry_checked lent place n rest
  entry_allowed place n h = rw (le-ltb place n h)

  pub sized_right : (m : ℕ) (inputs outputs : Bool) → AllRight m inputs outputs → rest ≡ sized lent m inputs outputs rest
  sized_right m inputs outputs a = rw (le-ltb largest_m m a.small, a.inputs_right, a.outputs_right)

-- for two maps: the second is not a map; the first is not; and the first, if the second is
module _ (x y good : Bool) where
  pub second-not : good ≡ y → good ≡ false → good ≡ x && y
  second-not e f = rw (← e, f) (sym (and-false x))

  pub first-not : good ≡ x → good ≡ false → good ≡ x && y
  first-not e f = rw (← e, f)

  pub both_maps : (good' : Bool) → good ≡ x → good' ≡ y → good' ≡ true → good ≡ x && y
  both_maps good' e f g = rw (← f, g) (e ∙ sym (and-true x))

-- ---- 1, 2 and 3
pub long_map : (m table row : ℕ) → is_long m table row ≡ true → (table ≡ m * m) × (row ≡ m)
long_map m table row e = let both = both_true (eqb table (m * m)) (eqb row m) e in (eqb-true table (m * m) both.0, eqb-true row m both.1)

pub mapped : (m : ℕ) (A b : List ℕ) → m ≤ largest_m → is_long m (length A) (length b) ≡ true → Mapped m A b
mapped m A b h e = let both = long_map m (length A) (length b) e in record { small = h; table_long = both.0; row_long = both.1 }

-- ---- if no test applies
module _ (m : ℕ) (A b : List ℕ) (map : Mapped m A b) (good : is_map m A b ≡ true) where
  pub reordering_does : {T : Type 0} (d : T) (size : T → ℕ) (limit : ℕ) (l out : List T) → length l ≡ 2 ^ m → length l ≤ first_above size limit l
      → length out ≡ 2 ^ m → reordering_entries d size limit m A b l out ≡ done (reordered d m A b l)
  reordering_does d size limit l out long fine room =
      rw (
        le-ltb largest_m m map.small,
        eq-eqb (length A) (m * m) map.table_long,
        eq-eqb (length b) m map.row_long,
        eq-eqb (length l) (2 ^ m) long,
        eq-eqb (length out) (2 ^ m) room,
        good,
        le-ltb (first_above size limit l) (length l) fine,
      )

  module _ (C c : List ℕ) (map' : Mapped m C c) where
    pub undoing_does : undoing m A b C c ≡ done (undo_table m A, undo_row m A b)
    unfolding undoing
    undoing_does =
        rw (
          le-ltb largest_m m map.small,
          eq-eqb (length A) (m * m) map.table_long,
          eq-eqb (length b) m map.row_long,
          eq-eqb (length C) (m * m) map'.table_long,
          eq-eqb (length c) m map'.row_long,
          good,
        )

    pub multiplying_does : (D d : List ℕ) → Mapped m D d → is_map m C c ≡ true
        → multiplying m A b C c D d ≡ done (product_table m A C, product_row m A b c)
    unfolding multiplying
    multiplying_does D d room good' =
        rw (
          le-ltb largest_m m map.small,
          eq-eqb (length A) (m * m) map.table_long,
          eq-eqb (length b) m map.row_long,
          eq-eqb (length C) (m * m) map'.table_long,
          eq-eqb (length c) m map'.row_long,
          eq-eqb (length D) (m * m) room.table_long,
          eq-eqb (length d) m room.row_long,
          good,
          good',
        )
