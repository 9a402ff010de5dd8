-- `hard_row`: the row's signs, transformed.
use mathlib.Core.Path.{◌≡◌, ap, ap₂, sym, ◌∙◌, subst}
use mathlib.Core.List.{List, map}
use Prim.Native.Nat.{ℕ, ◌+◌, ◌-◌, ◌^◌}
use native.Mathlib.Omega.{arith}
use lib.IntN.{ℤ}
use lib.ListN.{length, take, drop}
use Rattle.words.specs.Bits.{Bits}
use Rattle.words.specs.Word.{transform}
use Rattle.decoding.specs.Quick.{hard}
use Rattle.decoding.specs.SignLaws.{bits_signs}
use Rattle.decoding.specs.Blocks.{hard_row}
use Rattle.rows.specs.Rows.{row_of}
use Rattle.rows.specs.RowLaws.{length-row_of}
use Rattle.blocks.proofs.information.hard_row.Goals as goal

-- the row as it is lent
lent : (n : ℕ) (rows : List ℤ) → take (n + n - n) (drop n rows) ≡ row_of n rows
lent n rows = let long : n + n - n ≡ n = omega arith in ap (λ (k : ℕ). take k (drop n rows)) long

pub hard_four-requires : goal.hard_four-requires
hard_four-requires c =
    let g = c in
    let four : g.args.n ≡ 4 = g.requires.0 ∙ ap (λ (k : ℕ). 2 ^ k) c.if-s-eq2.true in
    (omega (arith, four, g.requires.1), omega (arith, four, g.requires.2))

pub returns-then-s-eq2 : goal.returns-then-s-eq2
returns-then-s-eq2 c =
    let f = c in
    let g = f in
    let two = f.if-s-eq2.true in
    let four : g.args.n ≡ 4 = g.requires.0 ∙ ap (λ (k : ℕ). 2 ^ k) two in
    f.hard_four.ensures ∙ ap₂ (λ (s n : ℕ). hard_row s (row_of n g.args.rows.now)) (sym two) (sym four)

pub put_signs-requires : goal.put_signs-requires
put_signs-requires c =
    let g = c in
    ap length (lent g.args.n g.args.rows.now) ∙ length-row_of g.args.n g.args.rows.now g.requires.2 ∙ sym g.requires.1

pub transform-requires : goal.transform-requires
transform-requires c =
    let signs = c.put_signs in
    let g = c in
    let is = signs.ensures ∙ ap (map hard) (lent g.args.n g.args.rows.now) in
    (omega (arith, signs.auto, g.requires.0, g.requires.1), subst Bits (sym is) (bits_signs (row_of g.args.n g.args.rows.now)))

pub returns : goal.returns
returns c =
    let t = c in
    let signs = t in
    let g = signs in
    t.transform.ensures ∙ ap (transform g.args.s) (signs.put_signs.ensures ∙ ap (map hard) (lent g.args.n g.args.rows.now))
