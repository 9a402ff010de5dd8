-- The count is of the indices left before i.
use Rattle.std.specs.Prelude.{get_or}
use Rattle.std.proofs.Common.{ap, sym, ◌∙◌, arith}
use Rattle.words.specs.Kinds.{kinds}
use Rattle.words.proofs.KindLaws.{length-kinds, bits_kinds, kinds_at}
use Rattle.named.specs.Named.{kind_left}
use Rattle.named.specs.NamedLaws.{count-more, counted-all}
use Rattle.named.proofs.count_left.Goals as goal

pub loop-i-preserved : goal.loop-i-preserved
loop-i-preserved c =
    let l = c.loop-i in
    let named = c.args.named.now in
    let r = c.args.code.r in
    let m = c.args.code.m in
    count-more named (kinds r m) (c.requires.1 ∙ sym (length-kinds r m)) l.i l.count c.from-count.result (omega arith) l.invariant (bits_kinds r m)
    (c.from-count.ensures ∙ c.kind_left.ensures
    ∙ ap (kind_left (get_or named l.i 0)) (c.kind.ensures ∙ sym (kinds_at r m l.i (omega (arith, c.requires.1)))))

pub returns : goal.returns
returns c = counted-all _ _ (c.requires.1 ∙ sym (length-kinds c.args.code.r c.args.code.m)) c.loop-i.i c.loop-i.count (omega arith) c.loop-i.invariant
