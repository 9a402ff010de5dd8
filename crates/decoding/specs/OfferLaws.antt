-- What is held of a list of full paths that are offered one after the other: two of them, with the least and the next penalty.
use Rattle.std.specs.Prelude.{cond, ℕ, ◌≤◌}
use mathlib.Core.List.{List, [], ◌∷◌, map}
use Rattle.decoding.specs.Walk.{Full, Held, none, one, two, dropped, hold}

abbrev pub penalties_of : List Full → List ℕ
penalties_of l = map (λ (f : Full). f.penalty) l

abbrev pub paths_of : List Full → List (List ℕ)
paths_of l = map (λ (f : Full). f.path) l

-- dropped, or held
abbrev pub offer : Held → Full → Held
offer h f = cond (dropped h f.penalty) h (hold h f)

abbrev pub offers : Held → List Full → Held
offers h [] = h
offers h (f ∷ l) = offers (offer h f) l

-- ---- with the least penalties
abbrev pub Sorted : Held → Type 0
Sorted none = Unit {0}
Sorted (one a) = Unit {0}
Sorted (two a b) = a.penalty ≤ b.penalty
