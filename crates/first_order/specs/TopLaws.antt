-- The largest of a row: one more entry, and what the two passes over it find together.
use Rattle.std.specs.Prelude.{◌≡◌, refl, ◌⊎◌, List, ℕ, ◌+◌, ◌%◌, ◌/◌, ◌≤◌, ◌<◌, max, ℤ, pos, nat_abs, length, get_or, set}
use Rattle.std.proofs.Common.{ap, sym, ◌∙◌, inl, inr, ⊎_elim, arith, length-set, get_or-set_same, get_or-set_other}
use Rattle.std.proofs.Math.Decide.{ℕ_discrete}
use Rattle.std.proofs.Math.ListN.{get_or-eq_default}
use Rattle.numbers.specs.Choice.{lt_or_le}
use Rattle.decoding.specs.Readings.{Within}
use Rattle.hadamard.specs.Hadamard.{LargestTwo}
use Rattle.hadamard.proofs.LargestLaws.{largest_two}
use Rattle.first_order.specs.Work.{size_at, key_at, Top}

pub top_none : (f : ℕ → ℕ) → Top f 0 0
top_none f = record { none_above = λ i h. absurd (omega arith); some_has = inl refl }

pub top_more : (f : ℕ → ℕ) (j most : ℕ) → Top f j most → Top f (j + 1) (max most (f j))
top_more f j most t = record {
  none_above = λ i h.
      ⊎_elim (λ k. omega (arith, t.none_above i k)) (λ (k : j ≤ i). let e : i ≡ j = omega arith in rw e (omega arith)) (lt_or_le i j);
  some_has =
      ⊎_elim
      (λ (k : most < f j). inr (j, omega arith, omega arith))
      (λ (k : f j ≤ most).
      ⊎_elim
      (λ z. inl (omega arith))
      (λ (i : (i : ℕ) × (i < j) × (f i ≡ most)). inr (i.0, omega (arith, i.1), omega (arith, i.2)))
      t.some_has)
      (lt_or_le most (f j));
}

-- ---- the pass over the keys finds the place of the largest size
pub record Placed (h : List ℤ) (k : ℕ) : Type 0 where
  pub within : k % 256 < length h
  pub has : size_at h (k % 256) ≡ k / 256
  pub most : (i : ℕ) → i < length h → size_at h i ≤ k / 256

pub placed : (h : List ℤ) (k : ℕ) → 2 ≤ length h → length h ≤ 256 → Top (key_at h) (length h) k → Placed h k
placed h k two short t =
    ⊎_elim
    (λ (z : k ≡ 0).
    let e : k % 256 ≡ 0 = omega arith in
    record {
      within = omega arith;
      has = rw e (omega (arith, t.none_above 0 (omega arith)));
      most = λ i b. omega (arith, t.none_above i b);
    })
    (λ (i : (i : ℕ) × (i < length h) × (key_at h i ≡ k)).
    let e : k % 256 ≡ i.0 = omega (arith, i.1, i.2) in
    record {
      within = omega (arith, i.1);
      has = rw e (omega (arith, i.1, i.2));
      most = λ i b. omega (arith, t.none_above i b);
    })
    t.some_has

-- an entry set to 0
pub within_wiped : (n : ℕ) (h : List ℤ) (p : ℕ) → p < length h → Within n h → Within n (set h p (pos 0))
within_wiped n h p b w i =
    elim (ℕ_discrete i p) [
      | yes e ↦
          let z : nat_abs (get_or (set h p (pos 0)) i (pos 0)) ≡ 0 =
          ap (λ (k : ℕ). nat_abs (get_or (set h p (pos 0)) k (pos 0))) e ∙ ap nat_abs (get_or-set_same h p (pos 0) (pos 0) b) in
          omega arith
      | no d ↦
          let z : nat_abs (get_or (set h p (pos 0)) i (pos 0)) ≡ nat_abs (get_or h i (pos 0)) = ap nat_abs (get_or-set_other h p i (pos 0) (pos 0) d) in
          omega (arith, w i)
    ]

-- with the entry of the best set to 0, the largest that is left is the next
pub both_found : (h : List ℤ) (k second : ℕ) → 2 ≤ length h → Placed h k
    → Top (size_at (set h (k % 256) (pos 0))) (length (set h (k % 256) (pos 0))) second → LargestTwo h (k % 256) (k / 256) second
both_found h k second two p t =
    let place = k % 256 in
    let rest = set h place (pos 0) in
    let long : length rest ≡ length h = length-set h place (pos 0) in
    let same : (i : ℕ) → (i ≡ place → ⊥) → size_at rest i ≡ size_at h i = λ i d. ap nat_abs (get_or-set_other h place i (pos 0) (pos 0) d) in
    let wiped : size_at rest place ≡ 0 = ap nat_abs (get_or-set_same h place (pos 0) (pos 0) p.within) in
    let others : (i : ℕ) → (i ≡ place → ⊥) → size_at h i ≤ second =
    λ i d.
    ⊎_elim
    (λ (b : i < length h). omega (arith, same i d, t.none_above i (omega arith)))
    (λ (b : length h ≤ i). let e : size_at h i ≡ 0 = ap nat_abs (get_or-eq_default h (pos 0) {n = i} b) in omega arith)
    (lt_or_le i (length h)) in
    let at : (second ≡ 0) ⊎ ((i : ℕ) × (i < length h) × (i ≡ place → ⊥) × (size_at h i ≡ second)) =
    ⊎_elim
    (λ z. inl z)
    (λ (i : (i : ℕ) × (i < length rest) × (size_at rest i ≡ second)).
    elim (ℕ_discrete i.0 place) [
      | yes e ↦ inl (sym i.2 ∙ ap (size_at rest) e ∙ wiped)
      | no d ↦ inr (i.0, omega (arith, i.1), d, sym (same i.0 d) ∙ i.2)
    ])
    t.some_has in
    let most : second ≤ k / 256 =
    ⊎_elim
    (λ (z : second ≡ 0). omega arith)
    (λ (i : (i : ℕ) × (i < length h) × (i ≡ place → ⊥) × (size_at h i ≡ second)). omega (arith, i.3, p.most i.0 i.1))
    at in
    largest_two h place (k / 256) second two p.within p.has most others at
