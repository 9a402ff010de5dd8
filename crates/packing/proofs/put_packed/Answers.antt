-- `packing::put_packed` meets its contract: all pairs, and then a last single reading with its pad.
use mathlib.Core.Path.{◌≡◌, ap, ap₂, ◌∙◌, sym}
use mathlib.Core.List.{List}
use Prim.Native.Nat.{ℕ, ◌+◌, ◌*◌, ◌/◌, ◌%◌}
use native.Mathlib.Omega.{arith}
use lib.IntN.{pos}
use lib.ListN.{length, length-set, get_or, set}
use mir.Facts.{to_z-of_z}
use Rattle.numbers.specs.Front.{front, front-all}
use Rattle.packing.specs.Layout.{field, packed}
use Rattle.packing.specs.LayoutLaws.{length_packed_any, byte_first, byte_pad}
use Rattle.packing.specs.PairLaws.{front_last_two}
use Rattle.packing.proofs.put_packed.Goals as goal

pub field_of-a-requires : goal.field_of-a-requires
field_of-a-requires c =
    let g = c in
    rw (to_z-of_z (record { sfits = c.field_of-arg-1.given })) (g.requires.0 (2 * (length g.args.readings.now / 2)))

pub bounds-part-j : goal.bounds-part-j
bounds-part-j c =
    let g = c in
    omega (
      arith,
      length_packed_any g.args.readings.now,
      c.put_packed_pairs.auto.part,
      g.requires.1,
      c.if-n-eq1.true,
    )

pub bounds-part-j-then-n-eq1 : goal.bounds-part-j-then-n-eq1
bounds-part-j-then-n-eq1 c =
    let g = c in
    let pairs = c.put_packed_pairs in
    let k = length g.args.readings.now / 2 in
    omega (
      arith,
      length_packed_any g.args.readings.now,
      pairs.auto.part,
      g.requires.1,
      c.if-n-eq1.true,
      length-set pairs.new.part (3 * k) (c.field_of-a.result / 16),
    )

pub returns-then-n-eq1 : goal.returns-then-n-eq1
returns-then-n-eq1 c =
    let g = c in
    let l = g.args.readings.now in
    let x = packed l in
    let d = g.args.part.now in
    let k = length l / 2 in
    let odd : 2 * k + 1 ≡ length l = omega (arith, c.if-n-eq1.true) in
    let a : c.field_of-a.result ≡ field (get_or l (2 * k) (pos 0)) =
    rw (to_z-of_z (record { sfits = c.field_of-arg-1.given })) at c.field_of-a.ensures.0 in
    let first : c.field_of-a.result / 16 ≡ get_or x (3 * k) 0 = rw a (sym (byte_first k l (omega arith))) in
    let second : 16 * (c.field_of-a.result % 16) ≡ get_or x (3 * k + 1) 0 = rw a (sym (byte_pad k l odd)) in
    ap (λ (y : List ℕ). set (set y (3 * k) (c.field_of-a.result / 16)) (3 * k + 1) (16 * (c.field_of-a.result % 16)))
    c.put_packed_pairs.ensures
    ∙ ap₂ (λ (u v : ℕ). set (set (front d x (3 * k)) (3 * k) u) (3 * k + 1) v) first second
    ∙ front_last_two d x 0 k (omega (arith, length_packed_any l, g.requires.1)) (sym g.requires.1)

pub returns-else-n-eq1 : goal.returns-else-n-eq1
returns-else-n-eq1 c =
    let g = c in
    let l = g.args.readings.now in
    let all : 3 * (length l / 2) ≡ length (packed l) = omega (arith, length_packed_any l) in
    c.put_packed_pairs.ensures ∙ rw all (front-all g.args.part.now (packed l) g.requires.1)
