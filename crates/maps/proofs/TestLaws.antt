-- The test whether a map can be undone is exact.
use Rattle.std.specs.Prelude.{◌≡◌, refl, ◌⊎◌, ◌↔◌, true, false, List, [], ℕ, zero, suc, ◌^◌, ◌≤◌, ◌<◌}
use Rattle.std.proofs.Common.{ap, sym, ◌∙◌, inl, inr, ⊎_elim, arith, le_refl, eq-eqb, ne_eqb}
use Rattle.std.proofs.Math.Decide.{ℕ_discrete}
use Rattle.numbers.specs.Choice.{lt_or_le}
use Rattle.maps.specs.Maps.{image, Undoable, Apart, meets, all_apart, can_undo}
use Rattle.maps.proofs.UndoLaws.{table_apart, apart_table, undoable_apart}
use Rattle.maps.specs.TestLaws.{Tested}

-- some position has the value, or none has
abbrev Met : (ℕ → ℕ) → ℕ → ℕ → Type 0
Met f v n = ((meets f v n ≡ true) × (i : ℕ) × (i < n) × (f i ≡ v)) ⊎ ((meets f v n ≡ false) × ((i : ℕ) → i < n → f i ≡ v → ⊥))

met : (f : ℕ → ℕ) (v n : ℕ) → Met f v n
unfolding meets
met f v zero = inr (refl, λ i h e. omega arith)
met f v (suc n) = elim (ℕ_discrete (f n) v) [
  | yes e ↦ rw (eq-eqb (f n) v e) (inl (refl, n, le_refl (suc n), e))
  | no e ↦
      rw (ne_eqb (f n) v e)
      (⊎_elim
      (λ r. inl (r.0, r.1, omega (arith, r.2), r.3))
      (λ r.
      inr (
        r.0,
        λ i h k.
            ⊎_elim (λ l. r.1 i l k)
            (λ (l : n ≤ i).
            let z : n ≡ i = omega arith in
            e (ap f z ∙ k))
            (lt_or_le i n),
      ))
      (met f v n))
]

-- one more position, which has a value of its own
apart_more : (f : ℕ → ℕ) (n : ℕ) → ((i : ℕ) → i < n → f i ≡ f n → ⊥) → Apart n f → Apart (suc n) f
apart_more f n own apart i j h k e =
    ⊎_elim
    (λ l.
    ⊎_elim (λ o. apart i j l o e)
    (λ (o : n ≤ j).
    let z : j ≡ n = omega arith in
    absurd (own i l (e ∙ ap f z)))
    (lt_or_le j n))
    (λ (l : n ≤ i).
    let z : i ≡ n = omega arith in
    ⊎_elim (λ o. absurd (own j o (sym e ∙ ap f z))) (λ (o : n ≤ j). omega arith) (lt_or_le j n))
    (lt_or_le i n)

pub tested : (f : ℕ → ℕ) (n : ℕ) → Tested f n
unfolding all_apart
tested f zero = inl (refl, λ i j h k e. absurd (omega arith))
tested f (suc n) =
    ⊎_elim
    (λ r. rw r.0 (inr (refl, λ apart. omega (arith, r.2, apart r.1 n (omega (arith, r.2)) (le_refl (suc n)) r.3))))
    (λ r. rw r.0
    (⊎_elim
    (λ t. inl (t.0, apart_more f n r.1 t.1))
    (λ t. inr (t.0, λ apart. t.1 (λ i j h k. apart i j (omega arith) (omega arith))))
    (tested f n)))
    (met f (f n) n)

-- the test is true and the map can be undone, or it is false and no table and row of any kind undo the map
pub undo_tested : (m : ℕ) (A b : List ℕ) → ((can_undo m A ≡ true) × Undoable m A b) ⊎ ((can_undo m A ≡ false) × (Undoable m A b → ⊥))
unfolding can_undo
undo_tested m A b =
    ⊎_elim
    (λ t. inl (t.0, (undoable_apart m A b).1 (apart_table m A b t.1)))
    (λ t. inr (t.0, λ u. t.1 (table_apart m A b ((undoable_apart m A b).0 u))))
    (tested (image m A []) (2 ^ m))

pub can_undo_lem : (m : ℕ) (A b : List ℕ) → (can_undo m A ≡ true) ↔ Undoable m A b
can_undo_lem m A b =
    ⊎_elim
    (λ t. (λ e. t.1, λ u. t.0))
    (λ t. (λ e. let z : ◌≡◌ {A = ℕ} 0 1 = cc t.0 in absurd (omega arith), λ u. absurd (t.1 u)))
    (undo_tested m A b)
