-- Floats that are whole numbers (docs/RULES.md, §16). A float is `nan`, an infinity, or `fin s m e`: the number m * 2 ^ e, negative where s is true,
-- where 2 ^ e is the fraction `up e` / `down e` (the toolchain's `lib.Ieee`).
use Rattle.std.specs.Prelude.{◌≡◌, Bool, true, false, cond, List, [], ◌∷◌, ℕ, ◌*◌, ◌/◌, ◌%◌, ◌^◌, ℤ, pos, neg_ℤ, nat_abs, eqb, Float}
use Rattle.std.specs.Float.Ieee as Ieee
use Rattle.std.specs.Float.{nan, inf, fin, binary32}

-- n, negative where the sign is true
abbrev pub signed : Bool → ℕ → ℤ
signed true n = neg_ℤ (pos n)
signed false n = pos n

-- the float x is the whole number z; minus zero is 0
abbrev pub Equals : Float → ℤ → Type 0
Equals nan z = ⊥
Equals (inf s) z = ⊥
Equals (fin s m e) z = (m * Ieee.up e ≡ nat_abs z * Ieee.down e) × (signed s (nat_abs z) ≡ z)

pub record Represents (x : Float) (z : ℤ) : Type 0 where
  pub equals : Equals x z

-- a row of floats is a row of whole numbers, entry by entry
abbrev pub RowRepresents : List Float → List ℤ → Type 0
RowRepresents [] [] = Unit {0}
RowRepresents [] (z ∷ l) = ⊥
RowRepresents (x ∷ f) [] = ⊥
RowRepresents (x ∷ f) (z ∷ l) = Represents x z × RowRepresents f l

-- a number that no reading, sum or penalty reaches
abbrev pub outside : ℤ
outside = pos (2 ^ 24)

-- the whole number that x is; `outside` if x is not one
unfoldable pub whole_of : Float → ℤ
whole_of nan = outside
whole_of (inf s) = outside
whole_of (fin s m e) = cond (eqb (m * Ieee.up e % Ieee.down e) 0) (signed s (m * Ieee.up e / Ieee.down e)) outside

abbrev pub wholes : List Float → List ℤ
wholes [] = []
wholes (x ∷ l) = whole_of x ∷ wholes l

-- the float that is n, for n up to 2 ^ 24
abbrev pub float : ℕ → Float
float n = Ieee.of_int binary32 (pos n)
