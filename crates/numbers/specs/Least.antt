-- The least number of a list, and the next one, taken with repeats (docs/RULES.md, §3).
use Rattle.std.specs.Prelude.{List, [], ◌∷◌, cond, ℕ, min, eqb}

-- the least number of a list that is not empty
unfoldable pub least : List ℕ → ℕ
least [] = 0
least (x ∷ []) = x
least (x ∷ y ∷ l) = min x (least (y ∷ l))

-- the list without its first entry that is a
unfoldable pub without : ℕ → List ℕ → List ℕ
without a [] = []
without a (x ∷ l) = cond (eqb x a) l (x ∷ without a l)

-- the least of what is left when the least is taken out once
unfoldable pub next : List ℕ → ℕ
next l = least (without (least l) l)

-- the first entry whose number is a, or d if there is none
unfoldable pub first_with : {A : Type 0} → (A → ℕ) → ℕ → A → List A → A
first_with f a d [] = d
first_with f a d (x ∷ l) = cond (eqb (f x) a) x (first_with f a d l)
