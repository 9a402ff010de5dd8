-- `put_kinds`: the row holds the kinds up to where the loop is.
use Prim.Native.Nat.{◌≤◌, ◌-◌}
use mathlib.Core.Path.{◌≡◌, refl, sym, ◌∙◌}
use native.Mathlib.Omega.{arith}
use native.Mathlib.Numerals.{add-one}
use lib.ListN.{length, get_or, length-set, drop_of_length-le}
use Rattle.numbers.specs.Front.{front, front-suc, front-done}
use Rattle.words.specs.Kinds.{kinds}
use Rattle.words.proofs.KindLaws.{length-kinds, kinds_at}
use Rattle.code.proofs.put_kinds.Goals as goal

pub loop-i-init : goal.loop-i-init
loop-i-init c = (omega arith, refl, refl)

pub kind-requires : goal.kind-requires
kind-requires c = let s = c.before.before.before in (s.requires.0, omega (arith, s.requires.1))

pub loop-i-preserved : goal.loop-i-preserved
loop-i-preserved c =
    let s = c.before.before.before.before in
    let l = c.loop-i in
    let d = s.args.row.now in
    let r = s.args.code.r in
    let m = s.args.code.m in
    let x = kinds r m in
    let is : c.kind.result ≡ get_or x l.i 0 = c.kind.ensures ∙ sym (kinds_at r m l.i (omega (arith, s.requires.1))) in (
      omega arith,
      rw (add-one, is, l.invariant.1) (front-suc d x l.i 0 (omega arith) (omega (arith, length-kinds r m, s.requires.1))),
      simp length-set l.invariant.2,
    )

pub shape_of-row : goal.shape_of-row
shape_of-row c = c.loop-i.invariant.2

pub returns : goal.returns
returns c =
    let s = c.before.before.before in
    let l = c.loop-i in
    let d = s.args.row.now in
    let x = kinds s.args.code.r s.args.code.m in
    let long : length d ≡ length x = omega (arith, length-kinds s.args.code.r s.args.code.m, s.requires.1) in
    l.invariant.1 ∙ front-done d x l.i (omega arith) (drop_of_length-le x {i = l.i} (omega (arith, long)))
