-- The top of the recursion: the first cut reads the readings, and all rows below are in the scratch array of 256 sums.
use mathlib.Core.Path.{◌≡◌, ap, ◌∙◌}
use mathlib.Core.List.{List}
use Prim.Native.Nat.{ℕ, ◌/◌, ◌^◌, ◌≤◌}
use native.Mathlib.Omega.{arith}
use lib.IntN.{pos}
use lib.ListN.{length, get_or, take}
use lib.Pow.{pow_mono}
use Rattle.decoding.specs.Quick.{decide}
use Rattle.std.specs.Int.{w16, w32}
use Rattle.std.proofs.Common.{to_z-of_z}
use Rattle.quick.specs.EngineLaws.{one_word, lower_word, Foldable, row_halves, lower-ready, lower-back, upper_asked, upper-ready, upper-back}
use Rattle.quick.proofs.quick_word.Goals as goal
use Rattle.quick.proofs.quick_word.Goals.{After-first_half, After-second_half}

short : (m : ℕ) (word : List ℕ) → m ≤ 8 → length word ≡ 2 ^ m → length word ≤ 256
short m word h e = omega (arith, pow_mono h)

pub returns-then-m-eq0 : goal.returns-then-m-eq0
returns-then-m-eq0 c =
    let m = c.args.m in
    let l = c.args.readings.now in
    let kinds = c.args.kinds.now in
    let word = c.args.word.now in
    let is : c.from.result ≡ get_or l 0 (pos 0) = c.from.ensures ∙ to_z-of_z {w = w16} {z = get_or l 0 (pos 0)} (record { sfits = omega arith }) in
    let read = to_z-of_z {w = w32} {z = c.from.result} (record { sfits = omega arith }) ∙ is in
    one_word m kinds word l c.decide.result c.if-m-eq0.true c.requires.1.long_word
    (c.decide.ensures ∙ ap (decide (get_or kinds 0 0)) read)

pub lower_top-requires : goal.lower_top-requires
lower_top-requires c =
    let m = c.args.m in
    let l = c.args.readings.now in
    let kinds = c.args.kinds.now in
    let word = c.args.word.now in
    let e = row_halves m kinds word l c.requires.1 c.if-m-eq0.false in
    (e, omega (arith, e, c.requires.1.long_row, pow_mono c.requires.0), tt)

pub first_half-requires : goal.first_half-requires
first_half-requires c =
    let below = short c.args.m c.args.word.now c.requires.0 c.requires.1.long_word in
    lower-ready c.args.m c.args.kinds.now c.args.word.now c.args.readings.now c.requires.1 c.if-m-eq0.false _ below
    c.lower_top.new.rows c.lower_top.ensures

-- the first half of the word, once it is read
first_read : (c : After-first_half)
    → take (length c.args.word.now / 2) c.first_half.new.word ≡ lower_word c.args.m c.args.kinds.now c.args.readings.now
first_read c =
    let below = short c.args.m c.args.word.now c.requires.0 c.requires.1.long_word in
    lower-back c.args.m c.args.kinds.now c.args.word.now c.args.readings.now c.requires.1 c.if-m-eq0.false _ below
    c.lower_top.new.rows c.lower_top.ensures c.first_half.new.word c.first_half.ensures.1

room : (c : After-first_half) → length c.args.word.now ≤ length c.first_half.new.rows
room c =
    omega (
      arith,
      short c.args.m c.args.word.now c.requires.0 c.requires.1.long_word,
      c.first_half.auto.rows,
      c.lower_top.auto.rows,
    )

pub upper_top-requires : goal.upper_top-requires
upper_top-requires c =
    let m = c.args.m in
    let l = c.args.readings.now in
    let kinds = c.args.kinds.now in
    let word = c.args.word.now in
    let read = (goal.at.upper_top-requires c).After-first_half in
    let e = row_halves m kinds word l c.requires.1 c.if-m-eq0.false in (
      e,
      omega (arith, e, room read, c.requires.1.long_row, c.requires.1.long_word),
      upper_asked m kinds word l c.requires.1 c.if-m-eq0.false c.first_half.new.word c.first_half.auto.word (first_read read),
      tt,
    )

pub second_half-requires : goal.second_half-requires
second_half-requires c =
    let read = (goal.at.second_half-requires c).After-first_half in
    upper-ready c.args.m c.args.kinds.now c.args.word.now c.args.readings.now c.requires.1 c.if-m-eq0.false
    c.first_half.new.word c.first_half.auto.word (first_read read)
    c.first_half.new.rows (room read) c.upper_top.new.rows c.upper_top.ensures

-- both halves, once they are read
both_read : (c : After-second_half) → take (length c.args.word.now / 2) c.first_half.new.word ≡ lower_word c.args.m c.args.kinds.now c.args.readings.now
    → length c.args.word.now ≤ length c.first_half.new.rows
    → Foldable c.args.m c.args.kinds.now c.args.word.now c.args.readings.now c.second_half.new.word
both_read c first long =
    upper-back c.args.m c.args.kinds.now c.args.word.now c.args.readings.now c.requires.1 c.if-m-eq0.false
    c.first_half.new.word c.first_half.auto.word first c.first_half.new.rows long
    c.upper_top.new.rows c.upper_top.ensures c.second_half.new.word c.second_half.ensures

pub fold-requires : goal.fold-requires
fold-requires c =
    let read = (goal.at.fold-requires c).After-first_half in
    let both = both_read (goal.at.fold-requires c).After-second_half (first_read read) (room read) in
    (omega (arith, both.long), both.bits)

pub returns : goal.returns
returns c =
    let read = (goal.at.returns c).After-first_half in
    c.fold.ensures ∙ (both_read (goal.at.returns c).After-second_half (first_read read) (room read)).gives
