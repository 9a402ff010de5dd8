-- Laws of a list's entries: a list without repeats, and how the least number relates to the entries.
use Rattle.std.specs.Prelude.{◌≡◌, length}
use Rattle.std.proofs.Math.Path.{refl, sym}
use Rattle.std.proofs.Common.{ap, ap₂, ◌∙◌, arith, not-suc-le-zero, zero-lt-suc, eq-eqb, ne_eqb}
use Rattle.std.proofs.Math.Logic.{⊎_elim}
use mathlib.Core.List.Memᴰ
use mathlib.Core.List.{List, [], ◌∷◌, ◌++◌, map}
use mathlib.Core.List.{Memᴰ}
use Prim.Native.Nat.{ℕ, ◌≤◌, ◌<◌, min, zero-le}
use Rattle.std.proofs.Math.Decide.{ℕ_discrete}
use Rattle.numbers.specs.Choice.{lt_or_le}
use Rattle.numbers.specs.Sums.{sum}
use Rattle.numbers.specs.Least.{least, first_with}
use Rattle.numbers.specs.LeastLaws.{upto, at_most_lem}

-- ---- no entry occurs twice
abbrev pub Distinct : {A : Type 0} → List A → Type 0
Distinct [] = Unit {0}
Distinct (x ∷ l) = (Memᴰ x l → ⊥) × Distinct l

module _ {A : Type 0} (x y : A) (l : List A) (h : Distinct (x ∷ y ∷ l)) where
  pub distinct_swap : Distinct (y ∷ x ∷ l)
  distinct_swap = (
    λ i. ⊎_elim (λ e. h.0 (Memᴰ.head (sym e))) h.1.0 (Memᴰ.cases_cons i),
    (λ i. h.0 (Memᴰ.tail i), h.1.1),
  )

  pub distinct_less : Distinct (x ∷ l)
  distinct_less = (λ i. h.0 (Memᴰ.tail i), h.1.1)

pub distinct_third : {A : Type 0} (x y z : A) (l : List A) → Distinct (x ∷ y ∷ z ∷ l) → Distinct (x ∷ y ∷ l)
distinct_third x y z l h = (
  λ i. h.0 (⊎_elim (λ e. Memᴰ.head e) (λ j. Memᴰ.tail (Memᴰ.tail j)) (Memᴰ.cases_cons i)),
  distinct_less y z l h.1,
)

pub distinct_append : {A : Type 0} (k l : List A) → Distinct k → Distinct l → ((x : A) → Memᴰ x k → Memᴰ x l → ⊥) → Distinct (k ++ l)
distinct_append [] l h i apart = i
distinct_append (y ∷ k) l h i apart = (
  λ a. ⊎_elim h.0 (apart y (Memᴰ.head refl)) (Memᴰ.append_cases k a),
  distinct_append k l h.1 i (λ x j. apart x (Memᴰ.tail j)),
)

pub distinct_map : {A B : Type 0} (f : A → B) → ((x y : A) → f x ≡ f y → x ≡ y) → (l : List A) → Distinct l → Distinct (map f l)
distinct_map f one [] h = tt
distinct_map f one (x ∷ l) h = (
  λ a.
      let r = Memᴰ.of_map f l a in
      h.0 (Memᴰ.cast (one x r.0 (sym r.2)) r.1),
  distinct_map f one l h.1,
)

-- two functions that agree at the entries
pub map_same : {A B : Type 0} (f g : A → B) (l : List A) → ((x : A) → Memᴰ x l → f x ≡ g x) → map f l ≡ map g l
map_same f g [] h = refl
map_same f g (x ∷ l) h = ap₂ ◌∷◌ (h x (Memᴰ.head refl)) (map_same f g l (λ y m. h y (Memᴰ.tail m)))

-- ---- the least number and the entries
pub least-below : (x : ℕ) (l : List ℕ) → Memᴰ x l → least l ≤ x
unfolding least
least-below x [] h = absurd (Memᴰ.not-nil h)
least-below x (y ∷ []) h = ⊎_elim (λ e. omega arith) (λ i. absurd (Memᴰ.not-nil i)) (Memᴰ.cases_cons h)
least-below x (y ∷ z ∷ l) h = ⊎_elim (λ e. omega arith) (λ i. omega (arith, least-below x (z ∷ l) i)) (Memᴰ.cases_cons h)

pub least-entry : (l : List ℕ) → 0 < length l → Memᴰ (least l) l
unfolding least
least-entry [] h = absurd (not-suc-le-zero h)
least-entry (x ∷ []) h = Memᴰ.head refl
least-entry (x ∷ y ∷ l) h =
    let a = least (y ∷ l) in
    ⊎_elim
    (λ k.
    let e : min x a ≡ a = omega arith in
    rw e (Memᴰ.tail (least-entry (y ∷ l) (zero-lt-suc (length l)))))
    (λ k.
    let e : min x a ≡ x = omega arith in
    rw e (Memᴰ.head refl))
    (lt_or_le a x)

module _ {A : Type 0} (f : A → ℕ) where
  -- the first entry with a number that some entry has is an entry, and has the number
  pub first_with_lem : (a : ℕ) (d x : A) (l : List A) → Memᴰ x l → f x ≡ a → Memᴰ (first_with f a d l) l × (f (first_with f a d l) ≡ a)
  unfolding first_with
  first_with_lem a d x [] h e = absurd (Memᴰ.not-nil h)
  first_with_lem a d x (y ∷ l) h e = elim (ℕ_discrete (f y) a) [
    | yes k ↦ rw (eq-eqb (f y) a k) (Memᴰ.head refl, k)
    | no k ↦
        let r = first_with_lem a d x l (⊎_elim (λ z. absurd (k (sym (ap f z) ∙ e))) (λ i. i) (Memᴰ.cases_cons h)) e in
        rw (ne_eqb (f y) a k) (Memᴰ.tail r.0, r.1)
  ]

  -- an entry's number is counted
  counted : (t : ℕ) (x : A) (l : List A) → Memᴰ x l → f x ≤ t → 1 ≤ upto t (map f l)
  unfolding upto sum
  counted t x [] h k = absurd (Memᴰ.not-nil h)
  counted t x (y ∷ l) h k =
      ⊎_elim (λ e. omega (arith, (at_most_lem t (f y)).on (rw (← (ap f e)) k))) (λ i. omega (arith, counted t x l i k)) (Memᴰ.cases_cons h)

  -- if at most one number is at most t, two entries with such a number are equal
  pub counted_once : (t : ℕ) (x y : A) (l : List A) → upto t (map f l) ≤ 1 → Memᴰ x l → Memᴰ y l → f x ≤ t → f y ≤ t → x ≡ y
  unfolding upto sum
  counted_once t x y [] c h i j k = absurd (Memᴰ.not-nil h)
  counted_once t x y (z ∷ l) c h i j k =
      let at_x = Memᴰ.cases_cons h in
      let at_y = Memᴰ.cases_cons i in
      ⊎_elim
      (λ d. ⊎_elim (λ e. d ∙ sym e) (λ e. absurd (omega (arith, c, (at_most_lem t (f z)).on (rw (← (ap f d)) j), counted t y l e k))) at_y)
      (λ d.
      ⊎_elim
      (λ e. absurd (omega (arith, c, (at_most_lem t (f z)).on (rw (← (ap f e)) k), counted t x l d j)))
      (λ e. counted_once t x y l (omega (arith, c)) d e j k)
      at_y)
      at_x

  none-counted : (t : ℕ) (l : List A) → ((x : A) → Memᴰ x l → f x ≤ t → ⊥) → upto t (map f l) ≡ 0
  unfolding upto sum
  none-counted t [] none = refl
  none-counted t (z ∷ l) none =
      ⊎_elim
      (λ k. omega (arith, (at_most_lem t (f z)).off k, none-counted t l (λ x i. none x (Memᴰ.tail i))))
      (λ k. absurd (none z (Memᴰ.head refl) k))
      (lt_or_le t (f z))

  -- and back, in a list without repeats
  pub once_counted : (t : ℕ) (l : List A) → Distinct l → ((x y : A) → Memᴰ x l → Memᴰ y l → f x ≤ t → f y ≤ t → x ≡ y)
      → upto t (map f l) ≤ 1
  unfolding upto sum
  once_counted t [] h one = zero-le
  once_counted t (z ∷ l) h one =
      ⊎_elim
      (λ k. omega (arith, (at_most_lem t (f z)).off k, once_counted t l h.1 (λ x y i j. one x y (Memᴰ.tail i) (Memᴰ.tail j))))
      (λ k.
      let alone : upto t (map f l) ≡ 0 = none-counted t l (λ x i j. h.0 (Memᴰ.cast (one z x (Memᴰ.head refl) (Memᴰ.tail i) k j) i)) in
      omega (arith, (at_most_lem t (f z)).bit, alone))
      (lt_or_le t (f z))
