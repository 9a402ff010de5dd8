-- Laws of a list that is cut in halves, and of lists that are cut in other ways.
use Rattle.std.specs.Prelude.{◌≡◌, refl, List, [], ◌∷◌, ◌++◌, ℕ, zero, suc, ◌+◌, ◌-◌, ◌^◌, ◌/◌, ◌<◌, length, get_or, take, drop}
use Rattle.std.proofs.Common.{ap, sym, ◌∙◌, arith, length-drop, length-append, length-take-le, get_or-append-add}
use Rattle.std.proofs.Math.Nat.{two-pow-succ, sub-zero, zero-sub, suc-sub-suc}
use Rattle.std.proofs.Math.ListN.{get_or-append}
use Rattle.std.proofs.Math.Seq.{take-nil}

module _ {A : Type 0} (h : ℕ) (x : List A) (e : length x ≡ h + h) where
  pub length_first_half : length (take h x) ≡ h
  length_first_half = length-take-le h x (omega arith)

  pub length_second_half : length (drop h x) ≡ h
  length_second_half = simp length-drop (omega arith)

  pub equal_halves : length (take h x) ≡ length (drop h x)
  equal_halves = length_first_half ∙ sym length_second_half

-- for 2^(m + 1) entries
module _ {A : Type 0} (m : ℕ) (x : List A) (e : length x ≡ 2 ^ suc m) where
  pub length-first : length (take (2 ^ m) x) ≡ 2 ^ m
  length-first = length_first_half (2 ^ m) x (e ∙ two-pow-succ m)

  pub length-second : length (drop (2 ^ m) x) ≡ 2 ^ m
  length-second = length_second_half (2 ^ m) x (e ∙ two-pow-succ m)

-- the entries of two lists of which the first has n
module _ {A : Type 0} (p q : List A) (n : ℕ) (e : length p ≡ n) where
  pub get_or-first : (i : ℕ) (d : A) → i < n → get_or (p ++ q) i d ≡ get_or p i d
  get_or-first i d h = get_or-append p q d i (omega arith)

  pub get_or-second : (i : ℕ) (d : A) → get_or (p ++ q) (n + i) d ≡ get_or q i d
  get_or-second i d = ap (λ (k : ℕ). get_or (p ++ q) (k + i) d) (sym e) ∙ get_or-append-add p q i d

pub drop-take : {A : Type 0} (h n : ℕ) (x : List A) → drop h (take n x) ≡ take (n - h) (drop h x)
drop-take zero n x = rw sub-zero
drop-take (suc h) zero x = rw zero-sub
drop-take (suc h) (suc n) [] = sym (take-nil (suc n - suc h))
drop-take (suc h) (suc n) (a ∷ x) = rw suc-sub-suc (drop-take h n x)

pub length_more : {A : Type 0} (x : List A) (a : A) → length (x ++ a ∷ []) ≡ length x + 1
length_more x a = length-append x (a ∷ [])

-- a length that is a power of two above 1, halved, as code does it
pub record Halved (n m : ℕ) : Type 0 where
  pub above : m ≡ suc (m - 1)
  pub half : n / 2 ≡ 2 ^ (m - 1)
  pub whole : n ≡ n / 2 + n / 2

pub halved : (n m : ℕ) → n ≡ 2 ^ m → (m ≡ 0 → ⊥) → Halved n m
halved n zero e z = absurd (z refl)
halved n (suc p) e z =
    let q : suc p - 1 ≡ p = omega arith in
    record { above = ap suc (sym q); half = rw q (omega (arith, two-pow-succ p)); whole = omega (arith, two-pow-succ p) }
