-- Demand 1, stated once for all calls: a call makes its checks in their order, and the first that applies refuses.
use Rattle.std.specs.Prelude.{◌≡◌, ◌⊎◌, ◌↔◌, List, ℕ, ◌^◌, ◌≤◌, ◌<◌, ℤ, pos, nat_abs, length, get_or}
use Rattle.words.specs.Kinds.{dimension}
use Rattle.code.specs.declared.Refusal.{Refusal}
use Rattle.code.specs.declared.Refusal.TheVariants.{Parameters, InputLength, OutputLength, Entry}
use Rattle.code.specs.Sound.{largest_m, largest_reading, carried, number_of}

-- what a call reports, in the rules' numbers, and the lent buffers as it leaves them
pub record View : Type 0 where
  pub number : ℕ
  pub place : ℕ
  pub penalty : ℕ
  pub gap : ℕ
  pub visits : ℕ
  pub buffers : List (List ℕ)

-- refused: the number, what the refusal carries, 0 for everything else, and the buffers unchanged
abbrev pub refused_as : Refusal → List (List ℕ) → View
refused_as why before =
    let c = carried why in
    record { number = c.number; place = c.place; penalty = c.penalty; gap = 0; visits = c.visits; buffers = before }

-- the checks of a call on its arguments, in their order: the refusal that each gives, and when it applies
pub data Checks : Type 1 where
  passed : Checks
  check : Refusal → Type 0 → Checks → Checks
  -- refused with the place at which it applies
  check_at : (ℕ → Refusal) → (ℕ → Type 0) → Checks → Checks

-- the first check that applies gives such a refusal
abbrev pub First : (Refusal → Type 0) → Checks → Type 0
First such passed = ⊥
First such (check why applies rest) = (such why × applies) ⊎ ((applies → ⊥) × First such rest)
First such (check_at why applies rest) = ((p : ℕ) × such (why p) × applies p) ⊎ (((p : ℕ) → applies p → ⊥) × First such rest)

abbrev pub NoneApplies : Checks → Type 0
NoneApplies passed = Unit {0}
NoneApplies (check why applies rest) = (applies → ⊥) × NoneApplies rest
NoneApplies (check_at why applies rest) = ((p : ℕ) → applies p → ⊥) × NoneApplies rest

pub record Demand1 (checks : Checks) (before : List (List ℕ)) (o : View) : Type 0 where
  -- each number is given exactly if the first check that applies gives it
  pub number : (n : ℕ) → 0 < n → (o.number ≡ n) ↔ First (λ why. number_of why ≡ n) checks
  pub done : (o.number ≡ 0) ↔ NoneApplies checks
  -- with what that refusal carries, 0 for everything else, and the buffers unchanged
  pub refused : (why : Refusal) → First (λ given. given ≡ why) checks → o ≡ refused_as why before
  pub kept : 0 < o.number → o.buffers ≡ before
  -- if nothing is refused there is no place
  pub no_place : o.number ≡ 0 → o.place ≡ 0

-- ---- the checks 1 to 4, which all calls on readings or bits begin with
-- place is the lowest of an entry whose size is above the limit
pub record LowestBad {A : Type 0} (d : A) (size : A → ℕ) (limit : ℕ) (l : List A) (place : ℕ) : Type 0 where
  pub below : place < length l
  pub bad : limit < size (get_or l place d)
  pub lowest : (j : ℕ) → j < place → size (get_or l j d) ≤ limit

-- the input l should have this length, and `outputs` says that the lent outputs have theirs
abbrev pub first_checks : {A : Type 0} → A → (A → ℕ) → ℕ → ℕ → ℕ → List A → ℕ → Type 0 → Checks → Checks
first_checks d size limit r m l expected outputs rest =
    check Parameters ((largest_m < m) ⊎ (m < r))
    (check InputLength (length l ≡ expected → ⊥)
    (check OutputLength (outputs → ⊥)
    (check_at Entry (LowestBad d size limit l) rest)))

-- of readings, and the lengths of the lent outputs for the information bits, of which this many are expected, and the word
abbrev pub reading_checks_for : ℕ → ℕ → ℕ → List ℤ → ℕ → ℕ → Checks → Checks
reading_checks_for expected r m l bits word = first_checks (pos 0) nat_abs largest_reading r m l (2 ^ m) ((bits ≡ expected) × (word ≡ 2 ^ m))

abbrev pub reading_checks : ℕ → ℕ → List ℤ → ℕ → ℕ → Checks → Checks
reading_checks r m = reading_checks_for (dimension r m) r m

-- of bits, an output of this length, and the lengths that they should have
abbrev pub bit_checks : ℕ → ℕ → List ℕ → ℕ → ℕ → ℕ → Checks → Checks
bit_checks r m input expected output room = first_checks 0 (λ b. b) 1 r m input expected (output ≡ room)
