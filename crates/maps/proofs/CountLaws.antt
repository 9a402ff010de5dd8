-- Counting: a function that maps the numbers below n to numbers below n, no two to the same, hits every number below n, and sums over it are sums over all.
use Rattle.std.specs.Prelude.{◌≡◌, refl, ℕ, zero, suc, ◌+◌, ◌*◌, ◌≤◌, ◌<◌}
use Rattle.std.proofs.Common.{ap, sym, ◌∙◌, ⊎_elim, arith, one-mul, mul-one, zero-mul, zero-add, le_refl, eq-eqb, ne_eqb}
use Rattle.std.proofs.Math.Decide.{ℕ_discrete}
use Rattle.numbers.specs.Choice.{lt_or_le}
use Rattle.numbers.specs.Sums.{total}
use Rattle.numbers.specs.SumsLaws.{total_same, total-zero}
use Rattle.maps.specs.Maps.{Apart, where_is}
use Rattle.maps.specs.DegreeLaws.{total-last}
use Rattle.maps.proofs.ProductLaws.{total-exchange, total-times}
use Rattle.maps.specs.CountLaws.{is}

pub is_same : (v x : ℕ) → x ≡ v → is v x ≡ 1
unfolding is
is_same v x e = rw (eq-eqb x v e)

pub is_other : (v x : ℕ) → (x ≡ v → ⊥) → is v x ≡ 0
unfolding is
is_other v x e = rw (ne_eqb x v e)

-- a sum that has one number x below n as its only place
none_picked : (g : ℕ → ℕ) (x n : ℕ) → n ≤ x → total (λ v. is v x * g v) n ≡ 0
none_picked g x n h =
    total_same (λ v. is v x * g v) (λ v. 0) n (λ v l. ap (λ (a : ℕ). a * g v) (is_other v x (λ e. omega arith)) ∙ zero-mul (g v)) ∙ total-zero n

pub picked : (g : ℕ → ℕ) (x n : ℕ) → x < n → total (λ v. is v x * g v) n ≡ g x
picked g x zero h = absurd (omega arith)
picked g x (suc n) h =
    total-last (λ v. is v x * g v) n
    ∙ ⊎_elim
    (λ l. rw (is_other n x (λ e. omega arith), zero-mul (g n)) (omega (arith, picked g x n l)))
    (λ l.
    let e : x ≡ n = omega arith in
    rw (is_same n x e, one-mul (g n), none_picked g x n l) (ap (λ (v : ℕ). 0 + g v) (sym e) ∙ zero-add (g x)))
    (lt_or_le x n)

-- ---- how often f is v
none_is : (f : ℕ → ℕ) (v n : ℕ) → ((i : ℕ) → i < n → f i ≡ v → ⊥) → total (λ i. is v (f i)) n ≡ 0
none_is f v n h = total_same (λ i. is v (f i)) (λ i. 0) n (λ i l. is_other v (f i) (h i l)) ∙ total-zero n

once : (f : ℕ → ℕ) (v n : ℕ) → Apart n f → total (λ i. is v (f i)) n ≤ 1
unfolding total
once f v zero apart = omega arith
once f v (suc n) apart = rw (total-last (λ i. is v (f i)) n)
    (elim (ℕ_discrete (f n) v) [
      | yes e ↦
          let none : total (λ i. is v (f i)) n ≡ 0 =
          none_is f v n (λ i l k. omega (arith, apart i n (omega arith) (le_refl (suc n)) (k ∙ sym e))) in
          rw (none, is_same v (f n) e) (omega arith)
      | no e ↦ rw (is_other v (f n) e) (omega (arith, once f v n (λ i j h k. apart i j (omega arith) (omega arith))))
    ])

-- ---- n numbers of at most 1 whose sum is n are all 1
total_most : (c : ℕ → ℕ) (n : ℕ) → ((v : ℕ) → v < n → c v ≤ 1) → total c n ≤ n
unfolding total
total_most c zero h = omega arith
total_most c (suc n) h = rw (total-last c n) (omega (arith, h n (le_refl (suc n)), total_most c n (λ v l. h v (omega arith))))

all_one : (c : ℕ → ℕ) (n : ℕ) → ((v : ℕ) → v < n → c v ≤ 1) → total c n ≡ n → (v : ℕ) → v < n → c v ≡ 1
all_one c zero h s v l = absurd (omega arith)
all_one c (suc n) h s v l =
    let rest = total_most c n (λ u k. h u (omega arith)) in
    let last = h n (le_refl (suc n)) in
    let sums = total-last c n in
    ⊎_elim (λ k. all_one c n (λ u i. h u (omega arith)) (omega arith) v k) (λ (k : n ≤ v). let e : v ≡ n = omega arith in rw e (omega arith)) (lt_or_le v n)

total-ones : (n : ℕ) → total (λ i. 1) n ≡ n
unfolding total
total-ones zero = refl
total-ones (suc n) = omega (arith, total-ones n)

-- ---- the numbers below n, in another order
module _ (n : ℕ) (f : ℕ → ℕ) (below : (i : ℕ) → i < n → f i < n) (apart : Apart n f) where
  each_once : (v : ℕ) → v < n → total (λ i. is v (f i)) n ≡ 1
  each_once =
      all_one (λ v. total (λ i. is v (f i)) n) n (λ v l. once f v n apart)
      (total-exchange (λ v i. is v (f i)) n n
      ∙ total_same (λ i. total (λ v. is v (f i)) n) (λ i. 1) n
      (λ i l. total_same (λ v. is v (f i)) (λ v. is v (f i) * 1) n (λ v k. sym (mul-one (is v (f i)))) ∙ picked (λ v. 1) (f i) n (below i l))
      ∙ total-ones n)

  pub total_another : (g : ℕ → ℕ) → total (λ i. g (f i)) n ≡ total g n
  total_another g =
      total_same (λ i. g (f i)) (λ i. total (λ v. is v (f i) * g v) n) n (λ i l. sym (picked g (f i) n (below i l)))
      ∙ total-exchange (λ i v. is v (f i) * g v) n n
      ∙ total_same (λ v. total (λ i. is v (f i) * g v) n) g n
      (λ v l. total-times (g v) (λ i. is v (f i)) n ∙ ap (λ (a : ℕ). a * g v) (each_once v l) ∙ one-mul (g v))

-- ---- the position where f is v
pub where_found : (f : ℕ → ℕ) (v n : ℕ) → 1 ≤ total (λ i. is v (f i)) n → (where_is f v n < n) × (f (where_is f v n) ≡ v)
unfolding where_is total
where_found f v zero h = absurd (omega arith)
where_found f v (suc n) h = elim (ℕ_discrete (f n) v) [
  | yes e ↦ rw (eq-eqb (f n) v e) (le_refl (suc n), e)
  | no e ↦
      let r = where_found f v n (omega (arith, total-last (λ i. is v (f i)) n, is_other v (f n) e)) in
      rw (ne_eqb (f n) v e) (omega (arith, r.0), r.1)
]

pub where_met : (n : ℕ) (f : ℕ → ℕ) → ((i : ℕ) → i < n → f i < n) → Apart n f → (v : ℕ) → v < n → (where_is f v n < n) × (f (where_is f v n) ≡ v)
where_met n f below apart v h = where_found f v n (omega (arith, each_once n f below apart v h))
