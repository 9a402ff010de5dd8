-- Laws of frozen indices taken at once: the loops over kinds and sums, one place more; and what a run of zeros adds, by the block's row.
use Rattle.std.specs.Prelude.{◌≡◌, refl, Bool, true, false, not, ◌||◌, cond, List, [], ◌∷◌, ◌⊎◌, ℕ, zero, suc, ◌+◌, ◌^◌, ◌≤◌, ◌<◌, min, ℤ, pos, nat_abs, length}
use Rattle.std.specs.Prelude.{get_or, set, take, drop, replicate, eqb, ltb}
use Rattle.std.proofs.Common.{ap, ap₂, sym, ◌∙◌, inl, inr, ⊎_elim, arith, add-one, take-suc, get_or-take, get_or-drop, lt-ltb, ne_eqb, eqb-true}
use Rattle.std.proofs.lemmas.List.{length-replicate, get_or-replicate}
use Rattle.std.proofs.Math.Seq.{paste, paste-suc}
use Rattle.numbers.specs.Choice.{cond_by, lt_or_le}
use Rattle.numbers.specs.Sums.{sum}
use Rattle.numbers.specs.SumsLaws.{sum-append}
use Rattle.decoding.specs.Readings.{loss, penalty, sizes}
use Rattle.decoding.specs.StepLaws.{entry-sizes, penalty-sizes}
use Rattle.decoding.specs.PenaltyLaws.{penalty-more, sizes-part}
use Rattle.decoding.specs.Walk.{added_by}
use Rattle.decoding.specs.Blocks.{zeros, block_row, Starts}
use Rattle.decoding.specs.BlockLaws.{block-zeros, block-early}
use Rattle.rows.specs.Rows.{row_of}
use Rattle.rows.specs.RowLaws.{length-row_of}
use Rattle.blocks.specs.Frozen.{all_frozen, frozen_run, lost_by, run_adds}

sum_more : (ks : List ℕ) (j : ℕ) → j < length ks → sum (take (j + 1) ks) ≡ sum (take j ks) + get_or ks j 0
unfolding sum
sum_more ks j h = rw (add-one, take-suc ks j 0 h, sum-append (take j ks) (get_or ks j 0 ∷ [])) (omega arith)

or_some : (a k : ℕ) → (ltb 0 a || not (eqb k 0)) ≡ ltb 0 (a + k)
or_some zero zero = refl
or_some zero (suc k) = rw (ne_eqb (suc k) 0 (λ e. omega arith), lt-ltb 0 (0 + suc k) (omega arith)) refl
or_some (suc a) k = rw (lt-ltb 0 (suc a) (omega arith), lt-ltb 0 (suc a + k) (omega arith)) refl

-- one kind more is looked at
pub some_more : (ks : List ℕ) (j k : ℕ) {some : Bool} → j < length ks → k ≡ get_or ks j 0 → some ≡ ltb 0 (sum (take j ks))
    → (some || not (eqb k 0)) ≡ ltb 0 (sum (take (j + 1) ks))
some_more ks j k h e s = rw (s, e, sum_more ks j h) (or_some (sum (take j ks)) (get_or ks j 0))

none_some : (a : ℕ) → not (ltb 0 a) ≡ eqb a 0
none_some zero = refl
none_some (suc a) = rw (ne_eqb (suc a) 0 (λ e. omega arith), lt-ltb 0 (suc a) (omega arith)) refl

pub all_frozen_lem : (ks : List ℕ) {some : Bool} → some ≡ ltb 0 (sum ks) → not some ≡ all_frozen ks
all_frozen_lem ks s = ap not s ∙ none_some (sum ks)

-- how many are taken
pub run_none : (ks : List ℕ) → all_frozen (take 15 ks) ≡ false → 0 ≡ frozen_run ks
run_none ks e = rw e refl

pub run-all : (ks : List ℕ) → all_frozen (take 15 ks) ≡ true → get_or ks 15 0 ≡ 0 → 16 ≡ frozen_run ks
run-all ks e f = rw (e, f) refl

pub run-early : (ks : List ℕ) → all_frozen (take 15 ks) ≡ true → (get_or ks 15 0 ≡ 0 → ⊥) → 15 ≡ frozen_run ks
run-early ks e f = rw (e, ne_eqb (get_or ks 15 0) 0 f) refl

pub run-sizes : (ks : List ℕ) → (frozen_run ks ≡ 0 → ⊥) → (frozen_run ks ≡ 15) ⊎ (frozen_run ks ≡ 16)
run-sizes ks =
    cond_by (λ (n : ℕ). (n ≡ 0 → ⊥) → (n ≡ 15) ⊎ (n ≡ 16)) (all_frozen (take 15 ks)) (cond (eqb (get_or ks 15 0) 0) 16 15) 0
    (λ e h. cond_by (λ (n : ℕ). (n ≡ 15) ⊎ (n ≡ 16)) (eqb (get_or ks 15 0) 0) 16 15 (λ f. inr refl) (λ f. inl refl))
    (λ e h. absurd (h refl))

pub run_most : (ks : List ℕ) → frozen_run ks ≤ 16
run_most ks =
    cond_by (λ (n : ℕ). n ≤ 16) (all_frozen (take 15 ks)) (cond (eqb (get_or ks 15 0) 0) 16 15) 0
    (λ e. cond_by (λ (n : ℕ). n ≤ 16) (eqb (get_or ks 15 0) 0) 16 15 (λ f. omega arith) (λ f. omega arith))
    (λ e. omega arith)

none_in : (l : List ℕ) (j : ℕ) → sum l ≡ 0 → get_or l j 0 ≡ 0
unfolding sum
none_in [] j e = refl
none_in (x ∷ l) zero e = omega (arith, e)
none_in (x ∷ l) (suc j) e = none_in l j (omega (arith, e))

-- those that are taken are frozen
pub run_frozen : (ks : List ℕ) (j : ℕ) → j < frozen_run ks → get_or ks j 0 ≡ 0
run_frozen ks j =
    cond_by (λ (n : ℕ). j < n → get_or ks j 0 ≡ 0) (all_frozen (take 15 ks)) (cond (eqb (get_or ks 15 0) 0) 16 15) 0
    (λ e. let early : j < 15 → get_or ks j 0 ≡ 0
    = λ h. sym (get_or-take 15 ks j 0 h) ∙ none_in (take 15 ks) j (eqb-true (sum (take 15 ks)) 0 e) in
    cond_by (λ (n : ℕ). j < n → get_or ks j 0 ≡ 0) (eqb (get_or ks 15 0) 0) 16 15
    (λ f h. ⊎_elim early (λ (k : 15 ≤ j). let last : j ≡ 15 = omega arith in ap (λ (n : ℕ). get_or ks n 0) last ∙ eqb-true (get_or ks 15 0) 0 f)
    (lt_or_le j 15))
    (λ f h. early h))
    (λ e h. absurd (omega arith))

-- ---- the row of n sums in the array s: one sum more
module _ (s : List ℤ) (n : ℕ) (room : n + n ≤ length s) (j : ℕ) (more : j < n) where
  sum_at : get_or s (n + j) (pos 0) ≡ get_or (row_of n s) j (pos 0)
  sum_at = sym (get_or-take n (drop n s) j (pos 0) more ∙ get_or-drop n s j (pos 0))

  pub sum-size : nat_abs (get_or s (n + j) (pos 0)) ≤ sizes (row_of n s)
  sum-size = rw sum_at (entry-sizes (row_of n s) j)

  pub lost_more : (b : ℕ) {p : ℕ} → p ≡ penalty (take j (row_of n s)) (replicate n b)
      → p + loss (get_or s (n + j) (pos 0)) b ≡ penalty (take (j + 1) (row_of n s)) (replicate n b)
  lost_more b e =
      ap₂ ◌+◌ e (ap₂ loss sum_at (sym (get_or-replicate n j b 0 more)))
      ∙ sym (penalty-more (row_of n s) (replicate n b) j (omega (arith, length-row_of n s room)) (omega (arith, length-replicate {A = ℕ} n b)))

pub lost_size : (row : List ℤ) (j : ℕ) (x : List ℕ) → penalty (take j row) x ≤ sizes row
lost_size row j x = omega (arith, penalty-sizes (take j row) x, sizes-part row j)

-- ---- one zero more is put
pub zero_put : (y : List ℕ) (i n j : ℕ) {y' : List ℕ} → i + n ≤ length y → j < n → y' ≡ paste y i (zeros n) j
    → set y' (i + j) 0 ≡ paste y i (zeros n) (j + 1)
zero_put y i n j h k e =
    ap₂ (λ (x : List ℕ) (b : ℕ). set x (i + j) b) e (sym (get_or-replicate n j 0 0 k))
    ∙ rw add-one (paste-suc y i (zeros n) j 0 (omega arith) (omega (arith, length-replicate {A = ℕ} n 0)))

-- ---- what is added
pub adds_all : (n : ℕ) (row : List ℤ) → n ≡ 16 → lost_by 0 row ≡ run_adds n row
adds_all n row e = rw e refl

pub adds_early : (n : ℕ) (row : List ℤ) → (n ≡ 16 → ⊥) → min (lost_by 0 row) (lost_by 1 row) ≡ run_adds n row
adds_early n row e = rw (ne_eqb n 16 e) refl

pub adds_size : (n : ℕ) (row : List ℤ) → run_adds n row ≤ sizes row
adds_size n row =
    cond_by (λ (a : ℕ). a ≤ sizes row) (eqb n 16) (lost_by 0 row) (min (lost_by 0 row) (lost_by 1 row)) (λ e. penalty-sizes row (replicate 16 0))
    (λ e. omega (arith, penalty-sizes row (replicate 16 0)))

-- as the written walk adds it, at the start of a block of 16 after the choices u
module _ (m d : ℕ) (l : List ℤ) (u : List ℕ) (at : Starts m d 4 u) (long : length l ≡ 2 ^ m) where
  pub run_added : (n : ℕ) → (n ≡ 15) ⊎ (n ≡ 16) → added_by m l u (zeros n) ≡ run_adds n (block_row m d l u)
  run_added n =
      ⊎_elim (λ (e : n ≡ 15). rw e (block-early m d 4 l u at long)) (λ (e : n ≡ 16). rw e (block-zeros m d 4 l u at long))
