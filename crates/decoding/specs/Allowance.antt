-- The walk under an allowance (docs/RULES.md, §5): it stops before the first visit beyond the allowance.
use Rattle.std.specs.Prelude.{List, [], ◌∷◌, ◌++◌, cond, ℕ, zero, suc, ◌+◌, ◌-◌, ℤ, ltb}
use Rattle.decoding.specs.Readings.{loss}
use Rattle.decoding.specs.Quick.{hard}
use Rattle.decoding.specs.Walk.{State, dropped, visited, finished, value}

pub data Limited : Type 0 where
  ended : State → Limited
  out : Limited

abbrev pub and_then : Limited → (State → Limited) → Limited
and_then (ended s) f = f s
and_then out f = out

abbrev pub extend_within : ℕ → (List ℕ → ℕ → State → Limited) → ℤ → List ℕ → ℕ → ℕ → State → Limited
extend_within allowed onward v u p b s =
    let q = p + loss v b in
    cond (ltb s.visits allowed) (cond (dropped s.held q) (ended (visited s)) (onward (u ++ b ∷ []) q (visited s))) out

unfoldable pub walk_within : ℕ → ℕ → List ℤ → List ℕ → List ℕ → ℕ → State → Limited
walk_within allowed m l [] u p s = ended (finished u p s)
walk_within allowed m l (zero ∷ ks) u p s = extend_within allowed (walk_within allowed m l ks) (value m l u) u p 0 s
walk_within allowed m l (suc k ∷ ks) u p s =
    let v = value m l u in
    and_then (extend_within allowed (walk_within allowed m l ks) v u p (hard v) s) (extend_within allowed (walk_within allowed m l ks) v u p (1 - hard v))
