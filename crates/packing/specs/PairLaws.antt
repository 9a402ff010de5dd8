-- Two readings in three bytes, as code stores them: a pass's stores at the front of a list.
use Rattle.std.specs.Prelude.{◌≡◌, List, [], ◌∷◌, ℕ, ◌+◌, ◌-◌, ◌*◌, ◌/◌, ◌%◌, ◌<◌, length, get_or, set}
use Rattle.std.proofs.Common.{ap, ◌∙◌, arith, add-one}
use borrow.Rule.Slice.PartMut.{put_mid}
use Rattle.numbers.specs.Lent.{back_from}
use Rattle.numbers.specs.Front.{front, front-suc, front-all}

module _ {A : Type 0} (d x : List A) (z : A) where
  -- one store, at a number that is j
  store : (j i : ℕ) → i ≡ j → j < length d → j < length x → set (front d x j) i (get_or x i z) ≡ front d x (j + 1)
  store j i e h k = rw (e, add-one) (front-suc d x j z h k)

  pub front_two : (k : ℕ) → 2 * k + 1 < length d → 2 * k + 1 < length x
      → set (set (front d x (2 * k)) (2 * k) (get_or x (2 * k) z)) (2 * k + 1) (get_or x (2 * k + 1) z) ≡ front d x (2 * (k + 1))
  front_two k h g =
      let e : 2 * k + 1 + 1 ≡ 2 * (k + 1) = omega arith in
      ap (λ (l : List A). set l (2 * k + 1) (get_or x (2 * k + 1) z)) (store (2 * k) (2 * k) (omega arith) (omega arith) (omega arith))
      ∙ store (2 * k + 1) (2 * k + 1) (omega arith) h g
      ∙ ap (front d x) e

  pub front_three : (k : ℕ) → 3 * k + 2 < length d → 3 * k + 2 < length x
      → set (set (set (front d x (3 * k)) (3 * k) (get_or x (3 * k) z)) (3 * k + 1) (get_or x (3 * k + 1) z)) (3 * k + 2) (get_or x (3 * k + 2) z)
      ≡ front d x (3 * (k + 1))
  front_three k h g =
      let e : 3 * k + 1 + 1 ≡ 3 * k + 2 = omega arith in
      let f : 3 * k + 2 + 1 ≡ 3 * (k + 1) = omega arith in
      ap (λ (l : List A). set (set l (3 * k + 1) (get_or x (3 * k + 1) z)) (3 * k + 2) (get_or x (3 * k + 2) z))
      (store (3 * k) (3 * k) (omega arith) (omega arith) (omega arith))
      ∙ ap (λ (l : List A). set l (3 * k + 2) (get_or x (3 * k + 2) z))
      (store (3 * k + 1) (3 * k + 1) (omega arith) (omega arith) (omega arith) ∙ ap (front d x) e)
      ∙ store (3 * k + 2) (3 * k + 2) (omega arith) h g
      ∙ ap (front d x) f

  -- three entries that are those of x
  pub front_three_by : (k : ℕ) (a b c : A) → a ≡ get_or x (3 * k) z → b ≡ get_or x (3 * k + 1) z → c ≡ get_or x (3 * k + 2) z
      → 3 * k + 2 < length d → 3 * k + 2 < length x
      → set (set (set (front d x (3 * k)) (3 * k) a) (3 * k + 1) b) (3 * k + 2) c ≡ front d x (3 * (k + 1))
  front_three_by k a b c e f i h g = rw (e, f, i) (front_three k h g)

  -- two bytes after all of the pairs
  pub front_last_two : (k : ℕ) → 3 * k + 2 ≡ length d → length x ≡ length d
      → set (set (front d x (3 * k)) (3 * k) (get_or x (3 * k) z)) (3 * k + 1) (get_or x (3 * k + 1) z) ≡ x
  front_last_two k h g =
      let e : 3 * k + 1 + 1 ≡ length x = omega arith in
      ap (λ (l : List A). set l (3 * k + 1) (get_or x (3 * k + 1) z)) (store (3 * k) (3 * k) (omega arith) (omega arith) (omega arith))
      ∙ store (3 * k + 1) (3 * k + 1) (omega arith) (omega arith) (omega arith)
      ∙ rw e (front-all d x (omega arith))

  -- all pairs are stored, and a last single entry after them
  module _ (same : length x ≡ length d) where
    pub pairs_all : length d % 2 ≡ 0 → front d x (2 * (length d / 2)) ≡ x
    pairs_all e =
        let all : 2 * (length d / 2) ≡ length x = omega arith in
        rw all (front-all d x (omega arith))

    pub pairs_and_last : length d % 2 ≡ 1 → set (front d x (2 * (length d / 2))) (2 * (length d / 2)) (get_or x (2 * (length d / 2)) z) ≡ x
    pairs_and_last e =
        let k = 2 * (length d / 2) in
        let all : k + 1 ≡ length x = omega arith in
        store k k (omega arith) (omega arith) (omega arith) ∙ rw all (front-all d x (omega arith))

-- a first entry is stored, and what follows it is lent and comes back
pub first-and-rest : {A : Type 0} (d q : List A) (v : A) → 0 < length d → put_mid 1 (length d - 1) (set d 0 v) q ≡ v ∷ q
first-and-rest [] q v h = absurd (omega arith)
first-and-rest (a ∷ d) q v h = back_from 1 (v ∷ d) q
