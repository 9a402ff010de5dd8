-- `record::search_framed` meets its contract: the front of the array holds the readings.
use mathlib.Core.Path.{◌≡◌, ◌∙◌, ap, sym}
use mathlib.Core.List.{List}
use Prim.Native.Nat.{ℕ, ◌+◌, ◌-◌, ◌≤◌}
use native.Mathlib.Omega.{arith}
use lib.IntN.{ℤ, pos}
use lib.ListN.{length, take, drop, replicate}
use native.Mathlib.Nat.{sub-zero}
use borrow.Rule.Slice.PartMut.{mid_of, mid_len, same_len_mid}
use Rattle.numbers.specs.Lent.{lent_again}
use Rattle.code.specs.SoundLaws.{length_most}
use Rattle.search.specs.RunnerUp.{searching_with_runner_up}
use Rattle.packing.specs.Layout.{unpacked}
use Rattle.record.specs.Reader.{part_of}
use Rattle.record.specs.ReaderLaws.{part_taken, length-readings_of}
use Rattle.record.proofs.search_framed.Goals as goal
use Rattle.record.proofs.search_framed.Goals.{After-part_length-end}

-- what is lent: the front of the array, and the packed part
abbrev zeros : List ℤ
zeros = replicate 256 (pos 0)

module _ (c : After-part_length-end) where
  abbrev n : ℕ
  n = c.length-n.result

  abbrev part : List ℕ
  part = take ((1 + c.part_length-end.result) - 1) (drop 1 c.args.s.now)

  lent_most : n ≤ 256
  lent_most = omega (arith, length_most c.requires.0, c.length-n.ensures)

  lent : length (mid_of 0 (n - 0) zeros) ≡ n
  lent = mid_len 0 n zeros lent_most ∙ sub-zero n

  taken : part ≡ part_of c.args.code c.args.s.now
  taken =
      let g = c.args in
      part_taken g.code g.s.now c.part_length-end.result c.part_length-end.ensures

  count : length (unpacked part) ≡ n
  count =
      let g = c in
      ap (λ (p : List ℕ). length (unpacked p)) taken ∙ length-readings_of g.args.code g.args.s.now g.requires.1 ∙ sym c.length-n.ensures

pub slice_bounds-readings-end : goal.slice_bounds-readings-end
slice_bounds-readings-end c = omega (arith, length_most c.requires.0, c.length-n.ensures)

pub put_readings-requires : goal.put_readings-requires
put_readings-requires c = lent ((goal.at.put_readings-requires c).After-part_length-end) ∙ sym (count ((goal.at.put_readings-requires c).After-part_length-end))

pub slice_bounds-search_within-end : goal.slice_bounds-search_within-end
slice_bounds-search_within-end c =
    let put = c.put_readings in
    let n = c.length-n.result in
    omega (arith, lent_most ((goal.at.slice_bounds-search_within-end c).After-part_length-end), same_len_mid 0 (n - 0) zeros put.new.readings put.auto.readings)

pub returns : goal.returns
returns c =
    let lending = (goal.at.returns c).After-part_length-end in
    let g = lending.args in
    let put = c.put_readings in
    let read = lent_again (n lending) zeros put.new.readings (ap length put.ensures ∙ count lending) ∙ put.ensures ∙ ap unpacked (taken lending) in
    c.search_within.ensures
    ∙ ap (λ (l : List ℤ). searching_with_runner_up g.code.r g.code.m g.allowed l g.bits.now g.word.now) read
