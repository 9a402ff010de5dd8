-- All readings 0: every word has penalty 0, so the search is tied, with penalty 0; the walk makes n + k visits, since the last index of RM(r,m)
-- carries information: one path is followed to its end, its second extension there is held too, and every other second extension is dropped.
use Rattle.std.specs.Prelude.{◌≡◌}
use mathlib.Core.List.{List, [], ◌∷◌}
use Prim.Native.Nat.{ℕ}

-- ---- the last index carries information
abbrev pub LastCarries : List ℕ → Type 0
LastCarries [] = ⊥
LastCarries (k ∷ []) = k ≡ 1
LastCarries (k ∷ j ∷ ks) = LastCarries (j ∷ ks)
