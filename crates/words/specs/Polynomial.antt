-- The textbooks' definition of the code: value tables of polynomials of degree at most r in m variables (docs/RULES.md, §1).
-- A polynomial over the numbers modulo 2 is its row of 2^m coefficients; monomial i has the variables at the one-bits of i. These are not the
-- bits of the row u: u_i goes with the product of 1 + x_p over the bits p where i has 0.
use Rattle.std.specs.Prelude.{List, ◌≡◌, cond, ℕ, zero, suc, ◌*◌, ◌^◌, ◌%◌, ◌<◌, length, get_or, eqb}
use Rattle.numbers.specs.Sums.{total, tabulate}
use Rattle.words.specs.Bits.{Bits, digit, ones}

-- the value of monomial i at point j: the product of bit p of j over the one-bits p of i
unfoldable pub monomial : ℕ → ℕ → ℕ → ℕ
monomial zero i j = 1
monomial (suc m) i j = monomial m i j * cond (eqb (digit m i) 1) (digit m j) 1

-- the polynomial's values at the points 0, 1, .., 2^m - 1
unfoldable pub value_table : ℕ → List ℕ → List ℕ
value_table m c = tabulate (λ j. total (λ i. get_or c i 0 * monomial m i j) (2 ^ m) % 2) (2 ^ m)

-- x is the value table of a polynomial of degree at most r: monomials of more than r variables have coefficient 0
pub record Polynomial (r m : ℕ) (x : List ℕ) : Type 0 where
  pub coefficients : List ℕ
  pub long : length coefficients ≡ 2 ^ m
  pub are_bits : Bits coefficients
  pub degree : (i : ℕ) → r < ones m i → get_or coefficients i 0 ≡ 0
  pub table : value_table m coefficients ≡ x
