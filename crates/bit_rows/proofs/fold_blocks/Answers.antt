-- The loop's invariant is `Blockwise`: the first k blocks are folded.
use Rattle.std.proofs.Common.{◌+◌, ◌<◌, ◌/◌, ◌∙◌, arith, length}
use Rattle.bit_rows.specs.Fold.{folded}
use Rattle.bit_rows.specs.BlockLaws.{block_asked, next_block, last_block, keeps_folded}
use Rattle.bit_rows.proofs.FoldLaws.{folded-front}
use Rattle.bit_rows.proofs.fold_blocks.Goals as goal

pub loop-k-preserved : goal.loop-k-preserved
loop-k-preserved c =
    let h = c.args.h in
    let w = c.loop-k.invariant in
    let t : c.loop-k.k < length c.args.word.now / (h + h) = omega arith in
    next_block (folded h) (h + h) _ _ _ w t (keeps_folded h) (omega arith) _ (c.fold.ensures ∙ folded-front _ h (block_asked _ _ _ _ _ w t).0)

pub returns : goal.returns
returns c = last_block _ _ _ _ _ c.loop-k.invariant (omega arith) (omega arith) (omega arith)
