-- Laws of blocks of information indices: where all of a block carry information each does; the choices of four by straight code.
use Rattle.std.specs.Prelude.{◌≡◌, refl, Bool, true, false, ◌&&◌, not, List, [], ◌∷◌, map, ℕ, zero, suc, ◌+◌, ◌%◌, ◌≤◌, ◌<◌, ℤ, pos, length, get_or, set, take}
use Rattle.std.specs.Prelude.{drop, eqb}
use Rattle.std.proofs.Common.{ap, sym, ◌∙◌, ⊎_elim, arith, length-drop, get_or-drop, eq-eqb}
use Rattle.std.proofs.lemmas.Bool.{false≢true}
use Rattle.numbers.specs.Choice.{lt_or_le}
use Rattle.words.specs.Word.{transform}
use Rattle.decoding.specs.Quick.{hard}
use Rattle.decoding.specs.Blocks.{hard_row}
use Rattle.rows.specs.Rows.{row_of}
use Rattle.blocks.specs.Information.{all_chosen}

-- ---- all carry information
pub and_both : (a b : Bool) → (a && b) ≡ true → (a ≡ true) × (b ≡ true)
and_both true b e = (refl, e)
and_both false b e = absurd (false≢true e)

-- where all do, each does
pub each_chosen : (kinds : List ℕ) (i n : ℕ) → all_chosen kinds i n ≡ true → (j : ℕ) → j < n → get_or kinds (i + j) 0 ≡ 0 → ⊥
unfolding all_chosen
each_chosen kinds i zero e j h z = absurd (omega arith)
each_chosen kinds i (suc n) e j h z =
    let both = and_both (all_chosen kinds i n) (not (eqb (get_or kinds (i + n) 0) 0)) e in
    ⊎_elim (λ (k : j < n). each_chosen kinds i n both.0 j k z)
    (λ (k : n ≤ j).
    let last : j ≡ n = omega arith in
    let is : get_or kinds (i + n) 0 ≡ 0 = ap (λ (x : ℕ). get_or kinds (i + x) 0) (sym last) ∙ z in
    false≢true (sym (ap not (eq-eqb (get_or kinds (i + n) 0) 0 is)) ∙ both.1))
    (lt_or_le j n)

-- ---- four choices
four : (l : List ℤ) → 4 ≤ length l → take 4 l ≡ get_or l 0 (pos 0) ∷ get_or l 1 (pos 0) ∷ get_or l 2 (pos 0) ∷ get_or l 3 (pos 0) ∷ []
four [] h = absurd (omega arith)
four (a ∷ []) h = absurd (omega arith)
four (a ∷ b ∷ []) h = absurd (omega arith)
four (a ∷ b ∷ c ∷ []) h = absurd (omega arith)
four (a ∷ b ∷ c ∷ d ∷ l) h = refl

put_four : (y : List ℕ) (a b c d : ℕ) → length y ≡ 4 → set (set (set (set y 0 a) 1 b) 2 c) 3 d ≡ a ∷ b ∷ c ∷ d ∷ []
put_four [] a b c d h = absurd (omega arith)
put_four (p ∷ []) a b c d h = absurd (omega arith)
put_four (p ∷ q ∷ []) a b c d h = absurd (omega arith)
put_four (p ∷ q ∷ r ∷ []) a b c d h = absurd (omega arith)
put_four (p ∷ q ∷ r ∷ s ∷ []) a b c d h = refl
put_four (p ∷ q ∷ r ∷ s ∷ t ∷ y) a b c d h = absurd (omega arith)

transform_four : (a b c d : ℕ) → transform 2 (a ∷ b ∷ c ∷ d ∷ []) ≡ ((a + b) % 2 + (c + d) % 2) % 2 ∷ (b + d) % 2 ∷ (c + d) % 2 ∷ d ∷ []
unfolding transform
transform_four a b c d = refl

pub hard-four : (rows : List ℤ) (y : List ℕ) → 8 ≤ length rows → length y ≡ 4 → {a b c d : ℕ}
    → a ≡ hard (get_or rows 4 (pos 0)) → b ≡ hard (get_or rows 5 (pos 0)) → c ≡ hard (get_or rows 6 (pos 0)) → d ≡ hard (get_or rows 7 (pos 0))
    → set (set (set (set y 0 (((a + b) % 2 + (c + d) % 2) % 2)) 1 ((b + d) % 2)) 2 ((c + d) % 2)) 3 d ≡ hard_row 2 (row_of 4 rows)
hard-four rows y h k {a} {b} {c} {d} ea eb ec ed =
    let at : (j : ℕ) → get_or (drop 4 rows) j (pos 0) ≡ get_or rows (4 + j) (pos 0) = λ j. get_or-drop 4 rows j (pos 0) in
    let row : map hard (row_of 4 rows) ≡ a ∷ b ∷ c ∷ d ∷ [] =
    ap (map hard) (four (drop 4 rows) (simp length-drop (omega arith))) ∙ rw (at 0, at 1, at 2, at 3, ea, eb, ec, ed) in
    put_four y (((a + b) % 2 + (c + d) % 2) % 2) ((b + d) % 2) ((c + d) % 2) d k
    ∙ sym (ap (transform 2) row ∙ transform_four a b c d)
