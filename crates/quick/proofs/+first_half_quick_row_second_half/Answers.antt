-- The recursion meets its contracts.
use mathlib.Core.Path.{◌≡◌, ap, sym, ◌∙◌}
use Prim.Native.Nat.{ℕ, ◌^◌}
use native.Mathlib.Omega.{arith}
use lib.ListN.{get_or}
use Rattle.decoding.specs.Quick.{decide}
use Rattle.rows.specs.Rows.{row_of}
use Rattle.quick.specs.EngineLaws.{one_word, first-ready, second-ready, behind_kept, first_back, second_back, Foldable}
use Rattle.quick.specs.EngineLaws.{FirstRead, one_value, lower_asked, first_asked, first_read, upper_row_asked, second_asked, second-read}
use Rattle.quick.specs.FrozenLaws.{frozen_word}
use Rattle.quick.specs.BarredLaws.{signs_put}
use Rattle.quick.proofs.+first_half_quick_row_second_half.Goals as goal
use Rattle.quick.proofs.+first_half_quick_row_second_half.Goals.{quick_row-After-first_half, quick_row-After-second_half}

pub first_half-quick_row-requires : goal.first_half-quick_row-requires
first_half-quick_row-requires t c =
    let m = c.args.m in
    let rows = c.args.rows.now in
    let kinds = c.args.kinds.now in
    let word = c.args.word.now in
    (omega (arith, c.requires.above), first-ready m rows kinds word c.requires)

pub first_half-returns : goal.first_half-returns
first_half-returns t c =
    let m = c.args.m in
    let rows = c.args.rows.now in
    let kinds = c.args.kinds.now in
    let word = c.args.word.now in (
      behind_kept m rows kinds word c.requires c.quick_row.new.rows c.quick_row.auto.rows,
      first_back m rows kinds word c.requires c.quick_row.new.word c.quick_row.ensures,
    )

pub quick_row-returns-then-m-eq0 : goal.quick_row-returns-then-m-eq0
quick_row-returns-then-m-eq0 t c =
    let m = c.args.m in
    let rows = c.args.rows.now in
    let kinds = c.args.kinds.now in
    let word = c.args.word.now in
    let z : m ≡ 0 = c.if-m-eq0.true in
    one_word m kinds word (row_of (2 ^ m) rows) c.decide.result z c.requires.sized.long_word
    (c.decide.ensures ∙ ap (decide (get_or kinds 0 0)) (one_value m rows kinds word c.requires z))

pub quick_row-returns-then-not-some_information : goal.quick_row-returns-then-not-some_information
quick_row-returns-then-not-some_information t c =
    let m = c.args.m in
    let rows = c.args.rows.now in
    let kinds = c.args.kinds.now in
    let word = c.args.word.now in
    c.fill.ensures.after (λ y e. e)
    ∙ frozen_word m kinds word (row_of (2 ^ m) rows) c.requires.sized.long_word (sym c.some_information.ensures ∙ c.if-not-some_information.true)

pub quick_row-returns-then-not-barred : goal.quick_row-returns-then-not-barred
quick_row-returns-then-not-barred t c =
    let m = c.args.m in
    let rows = c.args.rows.now in
    let kinds = c.args.kinds.now in
    let word = c.args.word.now in
    signs_put m rows kinds word c.requires c.put_signs.new.word (sym c.barred.ensures ∙ c.if-not-barred.true) c.put_signs.ensures

pub quick_row-lower_row-requires : goal.quick_row-lower_row-requires
quick_row-lower_row-requires t c = lower_asked c.args.m c.args.rows.now c.args.kinds.now c.args.word.now c.requires c.if-m-eq0.false

pub quick_row-first_half-requires : goal.quick_row-first_half-requires
quick_row-first_half-requires t c =
    let m = c.args.m in
    let rows = c.args.rows.now in
    let kinds = c.args.kinds.now in
    let word = c.args.word.now in
    (omega arith, first_asked m rows kinds word c.requires c.if-m-eq0.false c.lower_row.new.rows c.lower_row.ensures)

-- the first half, once it is read
first_done : {t : ℕ} (c : quick_row-After-first_half t)
    → FirstRead c.args.m c.args.rows.now c.args.kinds.now c.args.word.now c.first_half.new.rows c.first_half.new.word
first_done c =
    first_read c.args.m c.args.rows.now c.args.kinds.now c.args.word.now c.requires c.if-m-eq0.false
    c.lower_row.new.rows c.lower_row.ensures c.first_half.new.rows c.first_half.new.word
    c.first_half.auto.rows c.first_half.ensures.0 c.first_half.auto.word c.first_half.ensures.1

pub quick_row-upper_row-requires : goal.quick_row-upper_row-requires
quick_row-upper_row-requires t c =
    let first = first_done (goal.at.quick_row-upper_row-requires t c).After-first_half in
    upper_row_asked c.args.m c.args.rows.now c.args.kinds.now c.args.word.now c.requires c.if-m-eq0.false _ _ first

pub quick_row-second_half-requires : goal.quick_row-second_half-requires
quick_row-second_half-requires t c =
    let first = first_done (goal.at.quick_row-second_half-requires t c).After-first_half in (
      omega arith,
      second_asked c.args.m c.args.rows.now c.args.kinds.now c.args.word.now c.requires c.if-m-eq0.false _ _ first
          c.upper_row.new.rows c.upper_row.ensures,
    )

-- both halves, once they are read
both_done : {t : ℕ} (c : quick_row-After-second_half t)
    → FirstRead c.args.m c.args.rows.now c.args.kinds.now c.args.word.now c.first_half.new.rows c.first_half.new.word
    → Foldable c.args.m c.args.kinds.now c.args.word.now (row_of (2 ^ c.args.m) c.args.rows.now) c.second_half.new.word
both_done c first =
    second-read c.args.m c.args.rows.now c.args.kinds.now c.args.word.now c.requires c.if-m-eq0.false _ _ first
    c.upper_row.new.rows c.upper_row.ensures c.second_half.new.word c.second_half.ensures

pub quick_row-fold-requires : goal.quick_row-fold-requires
quick_row-fold-requires t c =
    let first = first_done (goal.at.quick_row-fold-requires t c).After-first_half in
    let both = both_done (goal.at.quick_row-fold-requires t c).After-second_half first in
    (omega (arith, both.long), both.bits)

pub quick_row-returns : goal.quick_row-returns
quick_row-returns t c =
    let first = first_done (goal.at.quick_row-returns t c).After-first_half in
    c.fold.ensures ∙ (both_done (goal.at.quick_row-returns t c).After-second_half first).gives

pub second_half-quick_row-requires : goal.second_half-quick_row-requires
second_half-quick_row-requires t c =
    let m = c.args.m in
    let rows = c.args.rows.now in
    let kinds = c.args.kinds.now in
    let word = c.args.word.now in
    (omega (arith, c.requires.above), second-ready m rows kinds word c.requires)

pub second_half-returns : goal.second_half-returns
second_half-returns t c =
    let m = c.args.m in
    let rows = c.args.rows.now in
    let kinds = c.args.kinds.now in
    let word = c.args.word.now in
    second_back m rows kinds word c.requires c.quick_row.new.word c.quick_row.ensures
