-- What a walk's counts, what it holds and its two kept rows of bits mean, and what its steps ask and give.
use Rattle.std.specs.Prelude.{◌≡◌, Bool, true, false, cond, List, [], ℕ, zero, suc, ◌+◌, ◌-◌, ◌^◌, ◌≤◌, ◌<◌, ℤ, length, take, drop, ltb, leb}
use Rattle.words.specs.Bits.{Bits}
use Rattle.decoding.specs.Readings.{sizes, sum_limit}
use Rattle.decoding.specs.Walk.{Full, Held, none, one, two, State, start, finished, value, path_penalty}
use Rattle.decoding.specs.OfferLaws.{Sorted}
use Rattle.decoding.specs.Allowance.{Limited, ended, out, extend_within, walk_within}
use Rattle.memory.specs.Memory.{RowsFor, ValueReady}
use Rattle.walk.specs.declared.progress.Count.{Count}
use Rattle.walk.specs.declared.progress.Progress.{Progress}

-- what the walk reads of an array: the first 2^m entries
abbrev pub front : {A : Type 0} → Count → List A → List A
front c x = take (2 ^ c.m) x

-- a full path is kept as its row of bits
abbrev pub full_of : ℕ → List ℕ → ℕ → Full
full_of m row p = record { path = take (2 ^ m) row; penalty = p }

-- by the number of full paths held
abbrev pub held_by : ℕ → Full → Full → Held
held_by zero a b = none
held_by (suc zero) a b = one a
held_by (suc (suc n)) a b = two a b

abbrev pub state_of : Progress → List ℕ → List ℕ → State
state_of w best second =
    record { held = held_by w.held (full_of w.count.m best w.best) (full_of w.count.m second w.second); visits = w.count.visits }

abbrev pub limited_of : Progress → List ℕ → List ℕ → Limited
limited_of w best second = cond w.count.out out (ended (state_of w best second))

-- a visit is allowed
abbrev pub allows : Count → Bool
allows c = ltb c.visits c.allowed

-- one visit more, or out
abbrev pub visiting : ℕ → Bool → Count → Count
visiting n o c = record c { visits = n; out = o }

abbrev pub more : Count → Count
more c = visiting (c.visits + 1) c.out c

abbrev pub stopped : Count → Count
stopped c = visiting c.visits true c

abbrev pub counted : Count → Count
counted c = cond (allows c) (more c) (stopped c)

-- n visits more are allowed; and they are counted
abbrev pub allows_more : ℕ → Count → Bool
allows_more n c = leb (c.visits + n) c.allowed

abbrev pub counted_more : ℕ → Count → Count
counted_more n c = visiting (c.visits + n) c.out c

-- n visits more, or as many as are allowed and out
abbrev pub counted_by : ℕ → Count → Count
counted_by n c = cond (allows_more n c) (counted_more n c) (visiting c.allowed true c)

-- the rows are made for index i
abbrev pub made_for : ℕ → Count → Count
made_for i c = record c { index = i }

-- the counts at the start: the rows are said to be made for the last index
abbrev pub begun : ℕ → ℕ → Count
begun m allowed = record { visits = 0; out = false; index = 2 ^ m - 1; m = m; allowed = allowed }

-- what is held stays, where a function of the counts changes them
abbrev pub with_count : Progress → Count → Progress
with_count w c = record w { count = c }

-- these full paths are held
abbrev pub holding : ℕ → ℕ → ℕ → Progress → Progress
holding k b s w = record w { held = k; best = b; second = s }

-- the counts after a visit
pub record Visited (c : Count) (r : Bool) (c' : Count) : Type 0 where
  pub answers : r ≡ allows c
  pub is : c' ≡ counted c

-- the penalty is not below the second's, which is above all penalties while no second is held
abbrev pub drops : Progress → ℕ → Bool
drops w p = leb w.second p

abbrev pub none_yet : ℕ
none_yet = 4294967295

-- the bytes for both rows hold bits
pub record AreBits (m : ℕ) (best second : List ℕ) : Type 0 where
  pub best_bits_lem : Bits (take (2 ^ m) best)
  pub second_bits : Bits (take (2 ^ m) second)

-- what a full path gives: it is held
pub record Finished (p : ℕ) (w : Progress) (y best second : List ℕ) (w' : Progress) (best' second' : List ℕ) : Type 0 where
  pub holds : state_of w' best' second' ≡ finished (take (2 ^ w.count.m) y) p (state_of w best second)
  pub high : (w.held < 2 → w.second ≡ none_yet) → w'.held < 2 → w'.second ≡ none_yet
  pub rest : w' ≡ holding w'.held w'.best w'.second w
  pub bits : Bits (take (2 ^ w.count.m) y) → AreBits w.count.m best second → AreBits w.count.m best' second'

-- what holds before and after each step: what is held is in order, and rows s are made for w's index, but for what depends on the path y from b on
pub record Kept (l : List ℤ) (w : Progress) (s : List ℤ) (y best second : List ℕ) (b : ℕ) : Type 0 where
  pub high : w.held < 2 → w.second ≡ none_yet
  pub sorted : Sorted (state_of w best second).held
  pub index_inside : w.count.index < 2 ^ w.count.m
  pub long_path : length y ≡ 256
  pub bits : Bits y
  pub both : AreBits w.count.m best second
  pub rows : RowsFor w.count.m l y w.count.index b s

-- what each step asks: the path of i bits has penalty p and is not dropped
pub record Ready (l : List ℤ) (kinds : List ℕ) (s : List ℤ) (y best second : List ℕ) (i p : ℕ) (w : Progress) : Type 0 where
  pub room : 2 ^ w.count.m ≤ 256
  pub long : length l ≡ 2 ^ w.count.m
  pub long_kinds : length kinds ≡ 2 ^ w.count.m
  pub small : sizes l < sum_limit
  pub inside : i ≤ 2 ^ w.count.m
  pub penalty : p ≡ path_penalty w.count.m l (take i y)
  pub going : w.count.out ≡ false
  pub undropped : drops w p ≡ false
  pub kept : Kept l w s y best second (i - 1)

-- what each step gives: the walk from the path of i bits on, and that path as before
pub record Stepped (l : List ℤ) (kinds : List ℕ) (i p : ℕ) (w : Progress) (y best second : List ℕ)
    (w' : Progress) (s' : List ℤ) (y' best' second' : List ℕ) : Type 0 where
  pub walks : limited_of w' best' second' ≡ walk_within w.count.allowed w.count.m l (drop i kinds) (take i y) p (state_of w best second)
  pub same_m : w'.count.m ≡ w.count.m
  pub same_allowed : w'.count.allowed ≡ w.count.allowed
  pub spent : w'.count.out ≡ true → w'.count.allowed ≤ w'.count.visits
  pub path_stays : take i y' ≡ take i y
  pub kept : Kept l w' s' y' best' second' (i - 1)

-- the written walk from the index after i on
abbrev pub rest : Progress → List ℤ → List ℕ → ℕ → List ℕ → ℕ → State → Limited
rest w l kinds i = walk_within w.count.allowed w.count.m l (drop (i + 1) kinds)

-- what one extension is to give, by the bit b of index i of the path u
abbrev pub extension : Progress → List ℤ → List ℕ → ℕ → ℕ → ℕ → List ℕ → State → Limited
extension w l kinds i p b u = extend_within w.count.allowed (rest w l kinds i) (value w.count.m l u) u p b

-- what it gives, where z is what the walk holds before it
pub record Extended (l : List ℤ) (kinds : List ℕ) (i p b : ℕ) (u : List ℕ) (z : Progress) (best second : List ℕ)
    (w' : Progress) (s' : List ℤ) (y' best' second' : List ℕ) : Type 0 where
  pub gives : limited_of w' best' second' ≡ extension z l kinds i p b u (state_of z best second)
  pub same_m : w'.count.m ≡ z.count.m
  pub same_allowed : w'.count.allowed ≡ z.count.allowed
  pub spent : w'.count.out ≡ true → w'.count.allowed ≤ w'.count.visits
  pub path_stays : take i y' ≡ u
  pub kept : Kept l w' s' y' best' second' (i - 1)

-- a visit was allowed, and the next step may go on: s₁ and σ are the rows and what is held and counted then, and y₁ has the path of i bits of y
pub record Going (l : List ℤ) (y : List ℕ) (i : ℕ) (w z σ : Progress) (s₁ : List ℤ) (y₁ best₁ second₁ : List ℕ) : Type 0 where
  pub same_m : z.count.m ≡ w.count.m
  pub may : allows z.count ≡ true
  pub going : z.count.out ≡ false
  pub index : ℕ
  pub is : σ ≡ with_count z (made_for index (more z.count))
  pub path : take i y₁ ≡ take i y
  pub kept : Kept l (with_count z (made_for index (more z.count))) s₁ y₁ best₁ second₁ i

-- ---- where the frozen step is in its loop: the walk from the path of i bits on is the walk from the path of the first `from` of them
pub record Onward (l : List ℤ) (kinds : List ℕ) (from p₀ : ℕ) (w₀ : Progress) (y₀ best₀ second₀ : List ℕ)
    (i p : ℕ) (w : Progress) (y best second : List ℕ) : Type 0 where
  pub on : from ≤ i
  pub same_m : w.count.m ≡ w₀.count.m
  pub same_allowed : w.count.allowed ≡ w₀.count.allowed
  pub path_stays : take from y ≡ take from y₀
  pub walks : walk_within w.count.allowed w.count.m l (drop i kinds) (take i y) p (state_of w best second)
      ≡ walk_within w₀.count.allowed w₀.count.m l (drop from kinds) (take from y₀) p₀ (state_of w₀ best₀ second₀)

-- ---- the same of the arrays: l₀ and k₀ are the readings and kinds with what is behind them
pub record StepAsked (l₀ : List ℤ) (k₀ : List ℕ) (s : List ℤ) (y best second : List ℕ) (w : Progress) (i p : ℕ) : Type 0 where
  pub ready : Ready (front w.count l₀) (front w.count k₀) s y best second i p w

pub record StepGiven (l₀ : List ℤ) (k₀ y best second : List ℕ) (w : Progress) (i p : ℕ)
    (s' : List ℤ) (y' best' second' : List ℕ) (w' : Progress) : Type 0 where
  pub stepped : Stepped (front w.count l₀) (front w.count k₀) i p w y best second w' s' y' best' second'

pub record Reached (l₀ : List ℤ) (k₀ y₀ best₀ second₀ : List ℕ) (w₀ : Progress) (from p₀ : ℕ)
    (s : List ℤ) (y best second : List ℕ) (w : Progress) (i p : ℕ) : Type 0 where
  pub asked : StepAsked l₀ k₀ s y best second w i p
  pub onward : Onward (front w₀.count l₀) (front w₀.count k₀) from p₀ w₀ y₀ best₀ second₀ i p w y best second

pub record ValueAsked (l₀ s : List ℤ) (y : List ℕ) (c : Count) (i : ℕ) : Type 0 where
  pub ready : ValueReady c.m (front c l₀) y c.index i s

pub record ValueGiven (l₀ : List ℤ) (y : List ℕ) (c : Count) (i : ℕ) (x : ℤ) (s' : List ℤ) (c' : Count) : Type 0 where
  pub is : x ≡ value c.m (front c l₀) (take i y)
  pub rows : RowsFor c.m (front c l₀) y i i s'
  pub counts : c' ≡ made_for i c

-- what the walk asks, and what it gives: its end, as the written walk has it
pub record Walkable (m : ℕ) (l : List ℤ) (kinds best second : List ℕ) : Type 0 where
  pub room : 2 ^ m ≤ 256
  pub long : length l ≡ 2 ^ m
  pub long_kinds : length kinds ≡ 2 ^ m
  pub small : sizes l < sum_limit
  pub both : AreBits m best second

pub record Walked (allowed m : ℕ) (l : List ℤ) (kinds : List ℕ) (w : Progress) (best second : List ℕ) : Type 0 where
  pub walks : limited_of w best second ≡ walk_within allowed m l kinds [] 0 start
  pub same_m : w.count.m ≡ m
  pub both : AreBits m best second
