-- Laws of sums and rows over the indices below a number: cut at a place, entry by entry, modulo 2.
use Rattle.std.specs.Prelude.{◌≡◌, refl, List, [], ◌∷◌, ◌++◌, ℕ, zero, suc, ◌+◌, ◌<◌, length, get_or, replicate}
use Rattle.std.proofs.Common.{ap, ap₂, sym, ◌∙◌, suc-le-suc, arith, zero-add, add_assoc, suc-add, not-suc-le-zero, le_of_suc-le-suc, zero-lt-suc}
use Rattle.numbers.specs.Sums.{total, tabulate, sum}

-- ---- cut at a place
pub total_split : (f : ℕ → ℕ) (a b : ℕ) → total f (a + b) ≡ total f a + total (λ i. f (a + i)) b
unfolding total
total_split f zero b = simp zero-add
total_split f (suc a) b = simp suc-add (ap (λ (n : ℕ). f 0 + n) (total_split (λ i. f (suc i)) a b) ∙ sym (add_assoc (f 0) _ _))

pub tabulate_split : {A : Type 0} (f : ℕ → A) (a b : ℕ) → tabulate f (a + b) ≡ tabulate f a ++ tabulate (λ i. f (a + i)) b
unfolding tabulate
tabulate_split f zero b = simp zero-add
tabulate_split {A} f (suc a) b = simp suc-add (ap (λ (l : List A). f 0 ∷ l) (tabulate_split (λ i. f (suc i)) a b))

pub sum-append : (x y : List ℕ) → sum (x ++ y) ≡ sum x + sum y
unfolding sum
sum-append [] y = omega arith
sum-append (a ∷ x) y = omega (arith, sum-append x y)

-- ---- entries
pub length-tabulate : {A : Type 0} (f : ℕ → A) (n : ℕ) → length (tabulate f n) ≡ n
unfolding tabulate
length-tabulate f zero = refl
length-tabulate f (suc n) = ap suc (length-tabulate (λ i. f (suc i)) n)

pub get_d_tabulate : {A : Type 0} (f : ℕ → A) (n i : ℕ) (d : A) → i < n → get_or (tabulate f n) i d ≡ f i
unfolding tabulate
get_d_tabulate f zero i d h = absurd (not-suc-le-zero h)
get_d_tabulate f (suc n) zero d h = refl
get_d_tabulate f (suc n) (suc i) d h = get_d_tabulate (λ j. f (suc j)) n i d (le_of_suc-le-suc h)

-- ---- two functions that agree below n
pub total_same : (f g : ℕ → ℕ) (n : ℕ) → ((i : ℕ) → i < n → f i ≡ g i) → total f n ≡ total g n
unfolding total
total_same f g zero h = refl
total_same f g (suc n) h = ap₂ ◌+◌ (h 0 (zero-lt-suc n)) (total_same (λ i. f (suc i)) (λ i. g (suc i)) n (λ i k. h (suc i) (suc-le-suc k)))

pub tabulate_same : {A : Type 0} (f g : ℕ → A) (n : ℕ) → ((i : ℕ) → i < n → f i ≡ g i) → tabulate f n ≡ tabulate g n
unfolding tabulate
tabulate_same f g zero h = refl
tabulate_same f g (suc n) h = ap₂ ◌∷◌ (h 0 (zero-lt-suc n)) (tabulate_same (λ i. f (suc i)) (λ i. g (suc i)) n (λ i k. h (suc i) (suc-le-suc k)))

-- ---- sums of two functions, and of zeros
pub total-add : (f g : ℕ → ℕ) (n : ℕ) → total (λ i. f i + g i) n ≡ total f n + total g n
unfolding total
total-add f g zero = refl
total-add f g (suc n) = omega (arith, total-add (λ i. f (suc i)) (λ i. g (suc i)) n)

pub total-zero : (n : ℕ) → total (λ i. 0) n ≡ 0
unfolding total
total-zero zero = refl
total-zero (suc n) = omega (arith, total-zero n)

pub tabulate-zeros : (n : ℕ) → tabulate {A = ℕ} (λ i. 0) n ≡ replicate n 0
unfolding tabulate
tabulate-zeros zero = refl
tabulate-zeros (suc n) = ap (λ (l : List ℕ). 0 ∷ l) (tabulate-zeros n)

pub sum_zeros : (n : ℕ) → sum (replicate n 0) ≡ 0
unfolding sum
sum_zeros zero = refl
sum_zeros (suc n) = omega (arith, sum_zeros n)
