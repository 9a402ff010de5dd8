-- Laws of the least number of a list and the next one, with repeats, by how many numbers are at most t, so that the order of the list does not matter.
use Rattle.std.specs.Prelude.{◌≡◌, refl, ◌↔◌, cond, List, [], ◌∷◌, map, ℕ, suc, ◌+◌, ◌≤◌, ◌<◌, min, length, leb}
use Rattle.std.proofs.Common.{ap, sym, subst, ◌∙◌, ⊎_elim, arith, le_antisymm, le_refl, le-leb, eq-eqb, ne_eqb}
use Rattle.std.proofs.lemmas.Bool.{lt-leb}
use Rattle.numbers.specs.Choice.{lt_or_le}
use Rattle.numbers.specs.Sums.{sum}
use Rattle.numbers.specs.Least.{least, without, next}

-- ---- counting
-- 1 where x is at most t, else 0
unfoldable pub at_most : ℕ → ℕ → ℕ
at_most t x = cond (leb x t) 1 0

-- how many numbers of a list are at most t
unfoldable pub upto : ℕ → List ℕ → ℕ
upto t l = sum (map (at_most t) l)

pub record AtMost (t x : ℕ) : Type 0 where
  pub bit : at_most t x ≤ 1
  pub on : x ≤ t → 1 ≤ at_most t x
  pub off : t < x → at_most t x ≡ 0

pub at_most_lem : (t x : ℕ) → AtMost t x
unfolding at_most
at_most_lem t x =
    ⊎_elim
    (λ h. record { bit = rw (lt-leb x t h) (omega arith); on = λ k. absurd (omega arith); off = λ k. rw (lt-leb x t h) })
    (λ h. record { bit = rw (le-leb x t h) (omega arith); on = λ k. rw (le-leb x t h) (omega arith); off = λ k. absurd (omega arith) })
    (lt_or_le t x)

-- a larger number is not counted
pub at_most_mono : (t : ℕ) {x y : ℕ} → x ≤ y → at_most t y ≤ at_most t x
at_most_mono t {x} {y} h =
    ⊎_elim (λ k. omega (arith, (at_most_lem t y).off k)) (λ k. omega (arith, (at_most_lem t y).bit, (at_most_lem t x).on (omega arith))) (lt_or_le t y)

pub at_most-back : (t x : ℕ) → 1 ≤ at_most t x → x ≤ t
at_most-back t x h = ⊎_elim (λ k. absurd (omega (arith, (at_most_lem t x).off k))) (λ k. k) (lt_or_le t x)

-- ---- the same numbers with the same repeats, in some order: any count over one is the count over the other
abbrev pub Reordered : List ℕ → List ℕ → Type 0
Reordered l l' = (g : ℕ → ℕ) → sum (map g l) ≡ sum (map g l')

pub length_as_sum : (l : List ℕ) → sum (map (λ (x : ℕ). 1) l) ≡ length l
unfolding sum
length_as_sum [] = refl
length_as_sum (x ∷ l) = omega (arith, length_as_sum l)

pub length-reordered : (l l' : List ℕ) → Reordered l l' → length l ≡ length l'
length-reordered l l' h = sym (length_as_sum l) ∙ h (λ x. 1) ∙ length_as_sum l'

-- ---- a is the least number and b the next
-- one number or more are at most t exactly if a is, two or more exactly if b is
pub record LeastTwo (l : List ℕ) (a b : ℕ) : Type 0 where
  pub first : (t : ℕ) → (1 ≤ upto t l) ↔ (a ≤ t)
  pub second : (t : ℕ) → (2 ≤ upto t l) ↔ (b ≤ t)

module _ {l : List ℕ} {a b a' b' : ℕ} (h : LeastTwo l a b) (k : LeastTwo l a' b') where
  pub only_least : a ≡ a'
  only_least = le_antisymm ((h.first a').0 ((k.first a').1 (le_refl a'))) ((k.first a).0 ((h.first a).1 (le_refl a)))

  pub only_next : b ≡ b'
  only_next = le_antisymm ((h.second b').0 ((k.second b').1 (le_refl b'))) ((k.second b).0 ((h.second b).1 (le_refl b)))

pub least_two_reordered : (l l' : List ℕ) {a b : ℕ} → Reordered l l' → LeastTwo l a b → LeastTwo l' a b
unfolding upto
least_two_reordered l l' r h = record { first = λ t. rw (r (at_most t)) at (h.first t); second = λ t. rw (r (at_most t)) at (h.second t) }

-- ---- `least` and `next` are these two
least_counts : (t x : ℕ) (l : List ℕ) → (1 ≤ upto t (x ∷ l)) ↔ (least (x ∷ l) ≤ t)
unfolding upto sum least
least_counts t x [] = (λ h. at_most-back t x (omega arith), λ h. omega (arith, (at_most_lem t x).on h))
least_counts t x (y ∷ l) =
    let i = least_counts t y l in (
      λ h. ⊎_elim (λ k. omega (arith, i.0 (omega (arith, (at_most_lem t x).off k)))) (λ k. omega arith) (lt_or_le t x),
      λ h. ⊎_elim (λ k. omega (arith, i.1 (omega arith))) (λ k. omega (arith, (at_most_lem t x).on k)) (lt_or_le t x),
    )

-- l is w with one more a
record TakenOut (l w : List ℕ) (a : ℕ) : Type 0 where
  counts : (t : ℕ) → upto t l ≡ at_most t a + upto t w
  long : length l ≡ suc (length w)

taken_out : (x : ℕ) (l : List ℕ) → TakenOut (x ∷ l) (without (least (x ∷ l)) (x ∷ l)) (least (x ∷ l))
unfolding upto sum least without
taken_out x [] = rw (eq-eqb x x refl) (record { counts = λ t. refl; long = refl })
taken_out x (y ∷ l) =
    let i = taken_out y l in
    let a = least (y ∷ l) in
    ⊎_elim
    (λ k.
    let e : min x a ≡ a = omega arith in
    subst (λ (b : ℕ). TakenOut (x ∷ y ∷ l) (without b (x ∷ y ∷ l)) b) (sym e)
    (rw (ne_eqb x a (λ z. omega arith)) (record { counts = λ t. omega (arith, i.counts t); long = ap suc i.long })))
    (λ k.
    let e : min x a ≡ x = omega arith in
    rw (e, eq-eqb x x refl) (record { counts = λ t. refl; long = refl }))
    (lt_or_le a x)

next_counts : (t x y : ℕ) (l w : List ℕ) → w ≡ without (least (x ∷ y ∷ l)) (x ∷ y ∷ l) → (2 ≤ upto t (x ∷ y ∷ l)) ↔ (least w ≤ t)
next_counts t x y l [] e = absurd (omega (arith, (taken_out x (y ∷ l)).long, ap length e))
next_counts t x y l (z ∷ w) e =
    let s = x ∷ y ∷ l in
    let a = least s in
    let c : (q : ℕ) → upto q s ≡ at_most q a + upto q (z ∷ w) = λ q. rw e ((taken_out x (y ∷ l)).counts q) in
    let n = least (z ∷ w) in
    let o : a ≤ n = (least_counts n x (y ∷ l)).0 (omega (arith, c n, (least_counts n z w).1 (le_refl n))) in (
      λ h. (least_counts t z w).0 (omega (arith, c t, (at_most_lem t a).bit)),
      λ h. omega (arith, c t, (least_counts t z w).1 h, (at_most_lem t a).on (omega arith)),
    )

pub least_two : (l : List ℕ) → 2 ≤ length l → LeastTwo l (least l) (next l)
unfolding next
least_two [] h = absurd (omega arith)
least_two (x ∷ []) h = absurd (omega arith)
least_two (x ∷ y ∷ l) h = record { first = λ t. least_counts t x (y ∷ l); second = λ t. next_counts t x y l _ refl }

-- any two numbers with both of these properties are these two
module _ (l : List ℕ) (h : 2 ≤ length l) {a b : ℕ} (k : LeastTwo l a b) where
  pub least-is : least l ≡ a
  least-is = only_least (least_two l h) k

  pub next-is : next l ≡ b
  next-is = only_next (least_two l h) k

pub least_le_next : (l : List ℕ) → 2 ≤ length l → least l ≤ next l
least_le_next l h =
    let k = least_two l h in
    (k.first (next l)).0 (omega (arith, (k.second (next l)).1 (le_refl (next l))))

-- ---- reordered lists have the same least number and the same next one
least-next-reordered : (l l' : List ℕ) → Reordered l l' → (least l ≡ least l') × (next l ≡ next l')
unfolding sum
least-next-reordered [] [] r = (refl, refl)
least-next-reordered [] (y ∷ l') r = absurd (omega (arith, length-reordered [] (y ∷ l') r))
least-next-reordered (x ∷ []) [] r = absurd (omega (arith, length-reordered (x ∷ []) [] r))
least-next-reordered (x ∷ []) (y ∷ []) r =
    let same : x ≡ y = omega (arith, r (λ z. z)) in
    (ap (λ (z : ℕ). least (z ∷ [])) same, ap (λ (z : ℕ). next (z ∷ [])) same)
least-next-reordered (x ∷ []) (y ∷ z ∷ l') r = absurd (omega (arith, length-reordered (x ∷ []) (y ∷ z ∷ l') r))
least-next-reordered (x ∷ y ∷ l) l' r =
    let two = least_two_reordered (x ∷ y ∷ l) l' r (least_two (x ∷ y ∷ l) (omega arith)) in
    let long = length-reordered (x ∷ y ∷ l) l' r in
    (sym (least-is l' (omega arith) two), sym (next-is l' (omega arith) two))

pub least-reordered : (l l' : List ℕ) → Reordered l l' → least l ≡ least l'
least-reordered l l' r = (least-next-reordered l l' r).0

pub next-reordered : (l l' : List ℕ) → Reordered l l' → next l ≡ next l'
next-reordered l l' r = (least-next-reordered l l' r).1
