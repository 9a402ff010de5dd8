-- The row u and polynomials: u_i is the coefficient of the product of all (1 + x_p) where bit p of i is 0, which has m - (the ones of i) factors.
-- So the indices with at least m - r ones are those of the products of degree at most r, and that is why they carry the information of RM(r,m).
use Rattle.std.specs.Prelude.{◌≡◌, refl, Bool, true, false, cond, ◌&&◌, List, ℕ, zero, suc, ◌+◌, ◌*◌, ◌^◌, ◌%◌, ◌<◌, length, get_or, leb, eqb}
use Rattle.std.proofs.Common.{ap, sym, ◌∙◌, arith, mul-one, mul-zero, zero-mul}
use Rattle.numbers.specs.Sums.{total, tabulate}
use Rattle.numbers.specs.SumsLaws.{total_same, tabulate_same}
use Rattle.words.specs.Bits.{Bits, digit}
use Rattle.words.specs.Word.{covers, word_bit, word_by_index, transform}
use Rattle.words.specs.BitLaws.{digit_bit}
use Rattle.words.specs.PublishedLaws.{word_by_index_lem}

-- its value at point j, modulo 2
unfoldable pub basis_row : ℕ → ℕ → ℕ → ℕ
basis_row zero i j = 1
basis_row (suc m) i j = basis_row m i j * cond (eqb (digit m i) 0) ((1 + digit m j) % 2) 1

factor_one : (z : Bool) (a b : ℕ) → a < 2 → b < 2 → ◌≡◌ {A = ℕ} (cond (z && leb b a) 1 0) (cond z 1 0 * cond (eqb a 0) ((1 + b) % 2) 1)
factor_one true zero zero h k = refl
factor_one true zero (suc zero) h k = refl
factor_one true (suc zero) zero h k = refl
factor_one true (suc zero) (suc zero) h k = refl
factor_one false a b h k = sym (zero-mul _)
factor_one true zero (suc (suc b)) h k = absurd (omega arith)
factor_one true (suc zero) (suc (suc b)) h k = absurd (omega arith)
factor_one true (suc (suc a)) b h k = absurd (omega arith)

-- it is 1 exactly where every one-bit of j is also a one-bit of i
pub basis_covers : (m i j : ℕ) → basis_row m i j ≡ cond (covers m j i) 1 0
unfolding basis_row covers
basis_covers zero i j = refl
basis_covers (suc m) i j =
    ap (λ (n : ℕ). n * cond (eqb (digit m i) 0) ((1 + digit m j) % 2) 1) (basis_covers m i j)
    ∙ sym (factor_one (covers m j i) (digit m i) (digit m j) (digit_bit m i) (digit_bit m j))

times-covers : (z : Bool) (a n : ℕ) → n ≡ cond z 1 0 → a * n ≡ cond z a 0
times-covers true a n e = ap (λ (k : ℕ). a * k) e ∙ mul-one a
times-covers false a n e = ap (λ (k : ℕ). a * k) e ∙ mul-zero a

-- the word of a row u is the value table of the sum of the products that u chooses
pub word_by_basis : (m : ℕ) (u : List ℕ) → length u ≡ 2 ^ m → Bits u
    → tabulate (λ j. total (λ i. get_or u i 0 * basis_row m i j) (2 ^ m) % 2) (2 ^ m) ≡ transform m u
unfolding word_by_index word_bit
word_by_basis m u e h =
    tabulate_same (λ j. total (λ i. get_or u i 0 * basis_row m i j) (2 ^ m) % 2) (word_bit m u) (2 ^ m)
    (λ j k.
    ap (λ (s : ℕ). s % 2)
    (total_same (λ i. get_or u i 0 * basis_row m i j) (λ i. cond (covers m j i) (get_or u i 0) 0) (2 ^ m)
    (λ i l. times-covers (covers m j i) (get_or u i 0) (basis_row m i j) (basis_covers m i j))))
    ∙ word_by_index_lem m u e h
