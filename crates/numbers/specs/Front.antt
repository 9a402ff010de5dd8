-- A loop that replaces a list's entries one by one from the front: after j passes the list is `front d x j`, where d is what it was and x what it will be.
use Rattle.std.specs.Prelude.{◌≡◌, refl, List, [], ◌∷◌, ◌++◌, ℕ, zero, suc, ◌≤◌, ◌<◌, length, get_or, take, drop, set}
use Rattle.std.proofs.Common.{ap, sym, ◌∙◌, not-suc-le-zero, le_of_suc-le-suc, arith, drop_of_length-le, take-append-drop}
use Rattle.std.proofs.Math.Seq.{drop-length}

module _ {A : Type 0} where
  abbrev pub front : List A → List A → ℕ → List A
  front d x j = take j x ++ drop j d

  -- a pass's store
  pub front-suc : (d x : List A) (j : ℕ) (z : A) → j < length d → j < length x → set (front d x j) j (get_or x j z) ≡ front d x (suc j)
  front-suc [] x j z h k = absurd (not-suc-le-zero h)
  front-suc (a ∷ d) [] j z h k = absurd (not-suc-le-zero k)
  front-suc (a ∷ d) (b ∷ x) zero z h k = refl
  front-suc (a ∷ d) (b ∷ x) (suc j) z h k = ap (λ (l : List A). b ∷ l) (front-suc d x j z (le_of_suc-le-suc h) (le_of_suc-le-suc k))

  -- what is not yet replaced
  pub front-after : (d x : List A) (j i : ℕ) (z : A) → j ≤ length d → j ≤ length x → j ≤ i → get_or (front d x j) i z ≡ get_or d i z
  front-after d x zero i z h k l = refl
  front-after [] x (suc j) i z h k l = absurd (not-suc-le-zero h)
  front-after (a ∷ d) [] (suc j) i z h k l = absurd (not-suc-le-zero k)
  front-after (a ∷ d) (b ∷ x) (suc j) zero z h k l = absurd (not-suc-le-zero l)
  front-after (a ∷ d) (b ∷ x) (suc j) (suc i) z h k l = front-after d x j i z (le_of_suc-le-suc h) (le_of_suc-le-suc k) (le_of_suc-le-suc l)

  -- a pass's store, if what is left to store begins with a
  pub drop-next : (x : List A) (j : ℕ) (a : A) (y : List A) → drop j x ≡ a ∷ y → drop (suc j) x ≡ y
  drop-next [] zero a y e = cc
  drop-next [] (suc j) a y e = cc
  drop-next (b ∷ x) zero a y e = cc
  drop-next (b ∷ x) (suc j) a y e = drop-next x j a y e

  pub front-next : (d x : List A) (j : ℕ) (a : A) (y : List A) → j < length d → drop j x ≡ a ∷ y → set (front d x j) j a ≡ front d x (suc j)
  front-next [] x j a y h e = absurd (not-suc-le-zero h)
  front-next (c ∷ d) [] zero a y h e = cc
  front-next (c ∷ d) [] (suc j) a y h e = cc
  front-next (c ∷ d) (b ∷ x) zero a y h e = cc
  front-next (c ∷ d) (b ∷ x) (suc j) a y h e = ap (λ (l : List A). b ∷ l) (front-next d x j a y (le_of_suc-le-suc h) e)

  -- all are replaced
  pub front-done : (d x : List A) (j : ℕ) → length d ≤ j → drop j x ≡ [] → front d x j ≡ x
  front-done d x j h e = ap (λ (l : List A). take j x ++ l) (drop_of_length-le d {i = j} h ∙ sym e) ∙ take-append-drop j x

  pub front-all : (d x : List A) → length d ≡ length x → front d x (length x) ≡ x
  front-all d x e = front-done d x (length x) (omega arith) (drop-length x)
