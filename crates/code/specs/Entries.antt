-- The lowest place of a bad entry: a bit byte above 1, a reading beyond the largest (docs/RULES.md, §6).
use Rattle.std.specs.Prelude.{List, [], ◌∷◌, Bool, false, cond, ◌||◌, ℕ, suc, ℤ, nat_abs, ltb}

-- the place of the first entry whose number is above the limit, or the length if there is none
unfoldable pub first_above : {A : Type 0} → (A → ℕ) → ℕ → List A → ℕ
first_above number limit [] = 0
first_above number limit (x ∷ l) = cond (ltb limit (number x)) 0 (suc (first_above number limit l))

-- whether there is one
unfoldable pub some_above : {A : Type 0} → (A → ℕ) → ℕ → List A → Bool
some_above number limit [] = false
some_above number limit (x ∷ l) = ltb limit (number x) || some_above number limit l

abbrev pub some_bad_bit : List ℕ → Bool
some_bad_bit l = some_above (λ b. b) 1 l

abbrev pub first_bad_bit : List ℕ → ℕ
first_bad_bit l = first_above (λ b. b) 1 l

abbrev pub some_bad_reading : ℕ → List ℤ → Bool
some_bad_reading largest l = some_above nat_abs largest l

abbrev pub first_bad_reading : ℕ → List ℤ → ℕ
first_bad_reading largest l = first_above nat_abs largest l
