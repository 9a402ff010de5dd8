-- A row that names information indices which are to be 0 as well, 1 where named, and the smaller set of words that it leaves (docs/RULES.md, §15).
use Rattle.std.specs.Prelude.{◌≡◌, Bool, true, false, not, cond, ◌&&◌, ◌||◌, List, [], ◌∷◌, ℕ, zero, suc, ◌<◌, length, get_or, ltb, eqb, Result, Ok, Err}
use Rattle.numbers.specs.Sums.{sum}
use Rattle.words.specs.Bits.{Bits}
use Rattle.words.specs.Kinds.{kinds}
use Rattle.code.specs.declared.Refusal.TheVariants.{Named}
use Rattle.code.specs.Sound.{made}
use Rattle.code.specs.Entries.{first_bad_bit}
use Rattle.code.specs.Admitted.{if_made}
use Rattle.code.specs.declared.Code.{Code}
use Rattle.code.specs.declared.Refusal.{Refusal}

-- the kind of an index that is named or not: a named one is frozen
abbrev pub kind_left : ℕ → ℕ → ℕ
kind_left zero kind = kind
kind_left (suc a) kind = 0

-- the kinds that a row leaves
unfoldable pub left : List ℕ → List ℕ → List ℕ
left [] ks = ks
left (a ∷ named) [] = []
left (a ∷ named) (k ∷ ks) = kind_left a k ∷ left named ks

-- a row that names information indices only, possibly none, and leaves at least one
pub record GoodRow (named ks : List ℕ) : Type 0 where
  pub long : length named ≡ length ks
  pub are_bits : Bits named
  pub information : (i : ℕ) → get_or named i 0 ≡ 1 → get_or ks i 0 ≡ 1
  pub leaves : 0 < sum (left named ks)

-- an index that is named and of a frozen kind
abbrev pub named_frozen : ℕ → ℕ → Bool
named_frozen zero kind = false
named_frozen (suc a) zero = true
named_frozen (suc a) (suc k) = false

-- whether the row has one
unfoldable pub names_frozen : List ℕ → List ℕ → Bool
names_frozen [] ks = false
names_frozen (a ∷ named) [] = false
names_frozen (a ∷ named) (k ∷ ks) = named_frozen a k || names_frozen named ks

-- the test; that it decides `GoodRow` is proved in NamedLaws
unfoldable pub good_row : List ℕ → List ℕ → Bool
good_row named ks =
    eqb (length named) (length ks) && (not (ltb (first_bad_bit named) (length named)) && (not (names_frozen named ks) && ltb 0 (sum (left named ks))))

-- 1, and then 12 exactly if the row is not a good one
unfoldable pub row_admitted : ℕ → ℕ → List ℕ → Result Code Refusal
row_admitted r m named = if_made (made r m) (λ c. cond (good_row named (kinds c.r c.m)) (Ok c) (Err Named))
