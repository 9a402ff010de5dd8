-- A row times a matrix, modulo 2, where the matrix is made of four blocks. This is why both forms of the code that are written by a matrix go by halves.
use Rattle.std.specs.Prelude.{◌≡◌, refl, List, ◌∷◌, ◌++◌, ℕ, zero, suc, ◌+◌, ◌*◌, ◌%◌, ◌<◌, get_or, take, drop}
use Rattle.std.proofs.Common.{ap, ap₂, sym, ◌∙◌, add-zero, zero-add, mul-zero, get_or-take, get_or-drop}
use Rattle.std.proofs.Math.Nat.{add-mod}
use Rattle.numbers.specs.Sums.{total, tabulate}
use Rattle.numbers.specs.SumsLaws.{total_split, total_same, total-zero, tabulate_split, tabulate_same}
use Rattle.words.specs.Bits.{xors}

-- entry j of the row u times the matrix, before it is taken modulo 2; and the row
abbrev pub entry : (ℕ → ℕ → ℕ) → ℕ → List ℕ → ℕ → ℕ
entry matrix n u j = total (λ i. get_or u i 0 * matrix i j) n

abbrev pub table : (ℕ → ℕ → ℕ) → ℕ → List ℕ → List ℕ
table matrix n u = tabulate (λ j. entry matrix n u j % 2) n

xors-tabulate : (f g : ℕ → ℕ) (n : ℕ) → tabulate (λ j. (f j + g j) % 2) n ≡ xors (tabulate (λ j. f j % 2) n) (tabulate (λ j. g j % 2) n)
unfolding tabulate
xors-tabulate f g zero = refl
xors-tabulate f g (suc n) = ap₂ ◌∷◌ (add-mod (f 0) (g 0) 2) (xors-tabulate (λ j. f (suc j)) (λ j. g (suc j)) n)

-- one of the four blocks is zero: it adds nothing
no_part : (n : ℕ) (f g : ℕ → ℕ) → ((i : ℕ) → i < n → g i ≡ 0) → total (λ i. f i * g i) n ≡ 0
no_part n f g h = total_same (λ i. f i * g i) (λ i. 0) n (λ i l. ap (λ (c : ℕ). f i * c) (h i l) ∙ mul-zero (f i)) ∙ total-zero n

module _ (n : ℕ) (matrix block : ℕ → ℕ → ℕ) (u : List ℕ) where
  -- what the first half of the row adds to an entry, and what the second half adds
  first_part : (j k : ℕ) → ((i : ℕ) → i < n → matrix i k ≡ block i j) → total (λ i. get_or u i 0 * matrix i k) n ≡ entry block n (take n u) j
  first_part j k h =
      total_same (λ i. get_or u i 0 * matrix i k) (λ i. get_or (take n u) i 0 * block i j) n
      (λ i l. ap₂ ◌*◌ (sym (get_or-take n u i 0 l)) (h i l))

  second-part : (j k : ℕ) → ((i : ℕ) → i < n → matrix (n + i) k ≡ block i j)
      → total (λ i. get_or u (n + i) 0 * matrix (n + i) k) n ≡ entry block n (drop n u) j
  second-part j k h =
      total_same (λ i. get_or u (n + i) 0 * matrix (n + i) k) (λ i. get_or (drop n u) i 0 * block i j) n
      (λ i l. ap₂ ◌*◌ (sym (get_or-drop n u i 0)) (h i l))

  -- the table by halves, each half given entry by entry
  by_parts : (f g : ℕ → ℕ)
      → ((j : ℕ) → j < n → total (λ i. get_or u i 0 * matrix i j) n + total (λ i. get_or u (n + i) 0 * matrix (n + i) j) n ≡ f j)
      → ((j : ℕ) → j < n → total (λ i. get_or u i 0 * matrix i (n + j)) n + total (λ i. get_or u (n + i) 0 * matrix (n + i) (n + j)) n ≡ g j)
      → table matrix (n + n) u ≡ tabulate (λ j. f j % 2) n ++ tabulate (λ j. g j % 2) n
  by_parts f g h k =
      let cut : (j : ℕ) → entry matrix (n + n) u j ≡ total (λ i. get_or u i 0 * matrix i j) n + total (λ i. get_or u (n + i) 0 * matrix (n + i) j) n =
      λ j. total_split (λ i. get_or u i 0 * matrix i j) n n in
      tabulate_split (λ j. entry matrix (n + n) u j % 2) n n
      ∙ ap₂ ◌++◌
      (tabulate_same (λ j. entry matrix (n + n) u j % 2) (λ j. f j % 2) n (λ j l. ap (λ (s : ℕ). s % 2) (cut j ∙ h j l)))
      (tabulate_same (λ j. entry matrix (n + n) u (n + j) % 2) (λ j. g j % 2) n (λ j l. ap (λ (s : ℕ). s % 2) (cut (n + j) ∙ k j l)))

  -- the blocks [1 0; 1 1]: the sum of the halves' tables, then the second half's
  pub table-lower : ((i j : ℕ) → i < n → j < n → matrix i j ≡ block i j) → ((i j : ℕ) → i < n → j < n → matrix (n + i) j ≡ block i j)
      → ((i j : ℕ) → i < n → j < n → matrix i (n + j) ≡ 0) → ((i j : ℕ) → i < n → j < n → matrix (n + i) (n + j) ≡ block i j)
      → table matrix (n + n) u ≡ xors (table block n (take n u)) (table block n (drop n u)) ++ table block n (drop n u)
  table-lower a b c d =
      by_parts (λ j. entry block n (take n u) j + entry block n (drop n u) j) (entry block n (drop n u))
      (λ j l. ap₂ ◌+◌ (first_part j j (λ i k. a i j k l)) (second-part j j (λ i k. b i j k l)))
      (λ j l. ap₂ ◌+◌ (no_part n (λ i. get_or u i 0) (λ i. matrix i (n + j)) (λ i k. c i j k l)) (second-part j (n + j) (λ i k. d i j k l)) ∙ zero-add _)
      ∙ ap (λ (x : List ℕ). x ++ table block n (drop n u)) (xors-tabulate (entry block n (take n u)) (entry block n (drop n u)) n)

  -- the blocks [1 1; 0 1]: the first half's table, then the sum of the halves' tables
  pub table-upper : ((i j : ℕ) → i < n → j < n → matrix i j ≡ block i j) → ((i j : ℕ) → i < n → j < n → matrix (n + i) j ≡ 0)
      → ((i j : ℕ) → i < n → j < n → matrix i (n + j) ≡ block i j) → ((i j : ℕ) → i < n → j < n → matrix (n + i) (n + j) ≡ block i j)
      → table matrix (n + n) u ≡ table block n (take n u) ++ xors (table block n (take n u)) (table block n (drop n u))
  table-upper a b c d =
      by_parts (entry block n (take n u)) (λ j. entry block n (take n u) j + entry block n (drop n u) j)
      (λ j l. ap₂ ◌+◌ (first_part j j (λ i k. a i j k l)) (no_part n (λ i. get_or u (n + i) 0) (λ i. matrix (n + i) j) (λ i k. b i j k l)) ∙ add-zero _)
      (λ j l. ap₂ ◌+◌ (first_part j (n + j) (λ i k. c i j k l)) (second-part j (n + j) (λ i k. d i j k l)))
      ∙ ap (λ (x : List ℕ). table block n (take n u) ++ x) (xors-tabulate (entry block n (take n u)) (entry block n (drop n u)) n)
