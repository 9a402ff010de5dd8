-- The kinds and the row are at the fronts of arrays, and the bits are put in front of 256 zeros.
use mathlib.Core.Path.{◌≡◌, ap, ap₂, ◌∙◌}
use mathlib.Core.List.{List, ◌++◌}
use Prim.Native.Nat.{ℕ, ◌-◌}
use native.Mathlib.Nat.{sub-zero}
use lib.ListN.{take}
use Rattle.std.proofs.Common.{arith}
use Rattle.words.specs.Kinds.{pick}
use Rattle.search.proofs.RunnerUpLaws.{second-shown}
use borrow.Rule.Slice.PartMut.{post_of}
use Rattle.search.proofs.put_second.Goals as goal

-- the first n bytes, as they are lent
cut : (n : ℕ) (x : List ℕ) → take (n - 0) x ≡ take n x
cut n x = rw sub-zero

pub returns : goal.returns
returns c =
    let s = c.args in
    let bits = c.pick.new.bits in
    ap (λ (x : List ℕ). bits ++ post_of 0 (s.k - 0) x) c.requires.0
    ∙ second-shown s.n s.k (take s.n s.kinds.now) s.second.now bits c.requires.1 (omega arith)
    (c.pick.ensures ∙ ap₂ pick (cut s.n s.kinds.now) (cut s.n s.second.now))
