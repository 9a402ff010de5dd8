-- After p passes the first 2^p bits are the word of the place's lowest p digits.
use Rattle.std.specs.Prelude.{◌≡◌, refl, ℕ, ◌*◌, ◌^◌, ◌%◌, ◌≤◌, ◌<◌, length, take}
use Rattle.std.proofs.Common.{ap, sym, ◌∙◌, subst, add-one, arith, length-set, pow_pos, pow_mono}
use Rattle.words.specs.Bits.{Bits, digit}
use Rattle.first_order.specs.WordLaws.{word-start, bits_first_order, next_word, doubles}
use Rattle.first_order.proofs.put_word.Goals as goal

pub loop-p-init : goal.loop-p-init
loop-p-init c =
    let some : 0 < length c.args.word.now = omega (arith, c.requires.0, pow_pos c.args.m) in
    word-start c.args.word.now c.args.place c.args.sign some c.requires.2

-- how far the word is doubled: below 2^64, so that the shift drops nothing
shifted : (p m : ℕ) → p < m → m ≤ 8 → (1 * 2 ^ p) % 18446744073709551616 ≡ 2 ^ p
shifted p m h k = omega (arith, pow_mono {i = p} {j = 8} (omega arith))

pub double-requires : goal.double-requires
double-requires c =
    let o = c.loop-p in
    let h = shifted o.p c.args.m c.loop-p-test.true c.requires.1 in
    let d = doubles o.p c.args.m (2 ^ o.p) (length o.word) c.loop-p-test.true refl
    (o.auto.word ∙ length-set c.args.word.now 0 c.args.sign ∙ c.requires.0) in
    rw h (d.room, subst Bits (sym o.invariant) (bits_first_order o.p c.args.place c.args.sign), omega arith)

pub loop-p-preserved : goal.loop-p-preserved
unfolding digit
loop-p-preserved c =
    let o = c.loop-p in
    let w = c.double.new.word in
    let h = shifted o.p c.args.m c.loop-p-test.true c.requires.1 in
    let d = doubles o.p c.args.m (2 ^ o.p) (length o.word) c.loop-p-test.true refl
    (o.auto.word ∙ length-set c.args.word.now 0 c.args.sign ∙ c.requires.0) in
    let e = rw h at c.double.ensures in
    rw add-one
    (ap (λ (k : ℕ). take k w) (sym d.next) ∙ next_word o.p c.args.place c.args.sign (2 ^ o.p) o.word w d.room o.invariant e)
