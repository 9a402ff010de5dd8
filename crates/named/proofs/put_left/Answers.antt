-- The row holds the kinds left up to where the loop is.
use Rattle.std.specs.Prelude.{◌≡◌, length, get_or}
use Rattle.std.proofs.Common.{ap, sym, ◌∙◌, arith, add-one}
use Rattle.std.proofs.Math.ListN.{drop_of_length-le}
use Rattle.numbers.specs.Front.{front-suc, front-done}
use Rattle.words.specs.Kinds.{kinds}
use Rattle.words.proofs.KindLaws.{length-kinds, kinds_at}
use Rattle.named.specs.Named.{kind_left, left}
use Rattle.named.specs.NamedLaws.{left_at, length-left}
use Rattle.named.proofs.put_left.Goals as goal

pub loop-i-preserved : goal.loop-i-preserved
loop-i-preserved c =
    let l = c.loop-i in
    let d = c.args.row.now in
    let named = c.args.named.now in
    let r = c.args.code.r in
    let m = c.args.code.m in
    let ks = kinds r m in
    let x = left named ks in
    let kind : c.kind.result ≡ get_or ks l.i 0 = c.kind.ensures ∙ sym (kinds_at r m l.i (omega (arith, c.requires.2))) in
    let is : c.kind_left.result ≡ get_or x l.i 0 = c.kind_left.ensures ∙ ap (kind_left (get_or named l.i 0)) kind ∙ sym (left_at named ks l.i) in
    rw (add-one, is, l.invariant) (front-suc d x l.i 0 (omega arith) (omega (arith, length-left named ks, length-kinds r m, c.requires.2)))

pub returns : goal.returns
returns c =
    let l = c.loop-i in
    let d = c.args.row.now in
    let ks = kinds c.args.code.r c.args.code.m in
    let x = left c.args.named.now ks in
    let long : length d ≡ length x = omega (arith, length-left c.args.named.now ks, length-kinds c.args.code.r c.args.code.m, c.requires.2) in
    l.invariant ∙ front-done d x l.i (omega arith) (drop_of_length-le x {i = l.i} (omega (arith, long)))
