-- `some_beyond`: the entries from i on, and what was found before them.
use Prim.Native.Nat.{◌-◌}
use mathlib.Core.Path.{refl}
use native.Mathlib.Omega.{arith}
use lib.ListN.{length}
use lib.IntN.{pos, nat_abs}
use mir.Syntax.{w16}
use mir.Val.{to_z}
use mir.Facts.{to_z-of_z}
use Rattle.code.specs.EntriesLaws.{Asked, ask_more, asked_all}
use Rattle.numbers.specs.Parts.{up}
use Rattle.code.proofs.some_beyond.Given as goal

abbrev pub invariant-loop-reading : goal.invariant-loop-reading
invariant-loop-reading l = Asked (pos 0) nat_abs (up l.largest) l.readings l.reading-index l.some
