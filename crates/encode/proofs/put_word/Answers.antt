-- The row is filled eight indices at a time, or by the kinds at the front of the scratch array.
use Rattle.std.specs.Prelude.{◌≤◌, ℕ, List, replicate}
use Rattle.std.proofs.Common.{ap, sym, ◌∙◌, arith, pow_mono}
use Rattle.words.specs.Kinds.{encoded}
use Rattle.words.proofs.KindLaws.{length-kinds, sum-kinds, bits_kinds}
use Rattle.encode.specs.WorkLaws.{filled_asked, kinds-read}
use Rattle.encode.proofs.put_word.Goals as goal

pub fill_code-requires : goal.fill_code-requires
fill_code-requires c =
    record {
      crossed = c.requires.sound.r_small;
      eight = omega arith;
      long_row = c.requires.long_word;
      enough = omega (arith, sum-kinds c.args.code.r c.args.code.m, c.requires.long_bits);
    }

pub transform-requires : goal.transform-requires
transform-requires c = filled_asked c.args.code.r c.args.code.m _ c.args.bits.now c.fill_code.ensures c.requires.entries

-- a code of m below 3 has at most 8 indices
pub slice_bounds-kinds-end : goal.slice_bounds-kinds-end
slice_bounds-kinds-end c = let small : c.args.code.m ≤ 3 = omega arith in omega (arith, pow_mono small, c.length-n.ensures)

pub put_by_kinds-requires : goal.put_by_kinds-requires
put_by_kinds-requires c =
    let r = c.args.code.r in
    let m = c.args.code.m in (
      rw (kinds-read r m _ (replicate 8 0) _ c.put_kinds.ensures c.length-n.ensures)
          (record {
            long_kinds = length-kinds r m;
            are_kinds = bits_kinds r m;
            long_bits = c.requires.long_bits ∙ sym (sum-kinds r m);
            long_word = c.requires.long_word;
          }),
      c.requires.entries,
    )

pub returns : goal.returns
returns c =
    let r = c.args.code.r in
    let m = c.args.code.m in
    c.put_by_kinds.ensures
    ∙ ap (λ (ks : List ℕ). encoded m ks c.args.bits.now) (kinds-read r m _ (replicate 8 0) _ c.put_kinds.ensures c.length-n.ensures)
