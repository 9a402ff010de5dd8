-- No frozen index is named before i.
use Rattle.std.specs.Prelude.{◌≡◌, length, get_or}
use Rattle.std.proofs.Common.{ap, sym, ◌∙◌, arith}
use Rattle.words.specs.Kinds.{kinds}
use Rattle.words.proofs.KindLaws.{length-kinds, kinds_at}
use Rattle.named.specs.Named.{named_frozen}
use Rattle.named.specs.NamedLaws.{named_here, not-here, none_named}
use Rattle.named.proofs.names_frozen.Goals as goal
use Rattle.named.proofs.names_frozen.Goals.{After-named_frozen, Start}

-- what is tested at index i
asked : (c : After-named_frozen)
    → let l = c.loop-i in
    let s = c.args in
    c.named_frozen.result ≡ named_frozen (get_or s.named.now l.i 0) (get_or (kinds s.code.r s.code.m) l.i 0)
asked c =
    let l = c.loop-i in
    let s = c.args in
    c.named_frozen.ensures
    ∙ ap (named_frozen (get_or s.named.now l.i 0)) (c.kind.ensures ∙ sym (kinds_at s.code.r s.code.m l.i (omega (arith, c.requires.1))))

long : (s : Start) → length s.args.named.now ≡ length (kinds s.args.code.r s.args.code.m)
long s = s.requires.1 ∙ sym (length-kinds s.args.code.r s.args.code.m)

pub returns-then-named_frozen : goal.returns-then-named_frozen
returns-then-named_frozen c =
    let at = goal.at.returns-then-named_frozen c in
    named_here _ _ (long at.Start) c.loop-i.i (omega arith) c.loop-i.invariant (sym (asked at.After-named_frozen) ∙ c.if-named_frozen.true)

pub loop-i-preserved : goal.loop-i-preserved
loop-i-preserved c =
    let at = goal.at.loop-i-preserved c in
    not-here _ _ (long at.Start) c.loop-i.i (omega arith) c.loop-i.invariant (sym (asked at.After-named_frozen) ∙ c.if-named_frozen.false)

pub returns : goal.returns
returns c = none_named _ _ (long (goal.at.returns c).Start) c.loop-i.i (omega arith) c.loop-i.invariant
