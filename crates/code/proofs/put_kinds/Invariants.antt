-- `put_kinds`: the row holds the kinds up to where the loop is.
use Prim.Native.Nat.{◌≤◌, ◌-◌}
use mathlib.Core.Path.{◌≡◌, refl, sym, ◌∙◌}
use native.Mathlib.Omega.{arith}
use native.Mathlib.Numerals.{add-one}
use lib.ListN.{length, get_or, length-set, drop_of_length-le}
use Rattle.numbers.specs.Front.{front, front-suc, front-done}
use Rattle.words.specs.Kinds.{kinds}
use Rattle.words.proofs.KindLaws.{length-kinds, kinds_at}
use Rattle.code.proofs.put_kinds.Given as goal

abbrev pub invariant-loop-i : goal.invariant-loop-i
invariant-loop-i l = (l.i ≤ length l.initial.row) × (l.row ≡ front l.initial.row (kinds l.code.r l.code.m) l.i) × (length l.row ≡ length l.initial.row)

abbrev pub decreases-loop-i : goal.decreases-loop-i
decreases-loop-i l = length l.initial.row - l.i
