-- The written walk: values, a path's penalty, what is held, visits, the whole tree (docs/RULES.md, §5).
-- A path is the list of its choices u_0, u_1, ..; the walk goes along the kinds of the indices that are still to choose.
use Rattle.std.specs.Prelude.{◌≡◌, List, [], ◌∷◌, ◌++◌, Bool, false, cond, ℕ, zero, suc, ◌+◌, ◌-◌, ◌^◌, ℤ, pos, length, get_or, take, drop, ltb, leb}
use Rattle.numbers.specs.Sums.{total, sum}
use Rattle.words.specs.Word.{transform}
use Rattle.decoding.specs.Readings.{loss}
use Rattle.decoding.specs.Quick.{hard, lower_row, upper_row}

-- the value at the index after the choices u, by the quick reading's steps
unfoldable pub value : ℕ → List ℤ → List ℕ → ℤ
value zero l u = get_or l 0 (pos 0)
value (suc m) l u =
    cond (ltb (length u) (2 ^ m)) (value m (lower_row (2 ^ m) l) u)
    (value m (upper_row (2 ^ m) l (transform m (take (2 ^ m) u))) (drop (2 ^ m) u))

-- what the choices w add to the penalty of the path u, one by one
unfoldable pub added_by : ℕ → List ℤ → List ℕ → List ℕ → ℕ
added_by m l u [] = 0
added_by m l u (b ∷ w) = loss (value m l u) b + added_by m l (u ++ b ∷ []) w

abbrev pub path_penalty : ℕ → List ℤ → List ℕ → ℕ
path_penalty m l u = added_by m l [] u

-- a full path and its penalty
pub record Full : Type 0 where
  pub path : List ℕ
  pub penalty : ℕ

-- the full paths held: none, the best, or best and second
pub data Held : Type 0 where
  none : Held
  one : Full → Held
  two : Full → Full → Held

pub record State : Type 0 where
  pub held : Held
  pub visits : ℕ

abbrev pub start : State
start = record { held = none; visits = 0 }

-- two full paths are held, and the penalty is not below the second's
abbrev pub dropped : Held → ℕ → Bool
dropped none p = false
dropped (one a) p = false
dropped (two a b) p = leb b.penalty p

-- as best if nothing is held or its penalty is below the best, when the old best becomes second; otherwise as second
abbrev pub hold : Held → Full → Held
hold none f = one f
hold (one a) f = cond (ltb f.penalty a.penalty) (two f a) (two a f)
hold (two a b) f = cond (ltb f.penalty a.penalty) (two f a) (two a f)

abbrev pub visited : State → State
visited s = record { held = s.held; visits = s.visits + 1 }

abbrev pub finished : List ℕ → ℕ → State → State
finished u p s = record { held = hold s.held (record { path = u; penalty = p }); visits = s.visits }

-- the path u of penalty p extended by the bit b at value v: one visit, then dropped or continued
abbrev pub extend : (List ℕ → ℕ → State → State) → ℤ → List ℕ → ℕ → ℕ → State → State
extend onward v u p b s =
    let q = p + loss v b in
    cond (dropped s.held q) (visited s) (onward (u ++ b ∷ []) q (visited s))

-- from the path u of penalty p on: a frozen index has one extension, an information index two
unfoldable pub walk : ℕ → List ℤ → List ℕ → List ℕ → ℕ → State → State
walk m l [] u p s = finished u p s
walk m l (zero ∷ ks) u p s = extend (walk m l ks) (value m l u) u p 0 s
walk m l (suc k ∷ ks) u p s =
    let v = value m l u in
    extend (walk m l ks) v u p (1 - hard v) (extend (walk m l ks) v u p (hard v) s)

-- the whole walk
unfoldable pub walked : ℕ → List ℕ → List ℤ → State
walked m ks l = walk m l ks [] 0 start

-- the visits that the walk needs
abbrev pub needed : ℕ → List ℕ → List ℤ → ℕ
needed m ks l = (walked m ks l).visits

-- the whole tree: the sum over all indices i of 2 to the number of information indices up to i
unfoldable pub tree : List ℕ → ℕ
tree ks = total (λ i. 2 ^ sum (take (suc i) ks)) (length ks)

-- the walk from here never meets a value of zero at an information index where it extends a path
unfoldable pub NeverZero : ℕ → List ℤ → List ℕ → List ℕ → ℕ → State → Type 0
NeverZero m l [] u p s = Unit {0}
NeverZero m l (zero ∷ ks) u p s =
    let q = p + loss (value m l u) 0 in
    dropped s.held q ≡ false → NeverZero m l ks (u ++ 0 ∷ []) q (visited s)
NeverZero m l (suc k ∷ ks) u p s =
    let v = value m l u in
    let q1 = p + loss v (hard v) in
    let q2 = p + loss v (1 - hard v) in
    let s1 = extend (walk m l ks) v u p (hard v) s in
    (v ≡ pos 0 → ⊥)
    × (dropped s.held q1 ≡ false → NeverZero m l ks (u ++ hard v ∷ []) q1 (visited s))
    × (dropped s1.held q2 ≡ false → NeverZero m l ks (u ++ (1 - hard v) ∷ []) q2 (visited s1))
