-- `put_zeros`: the part that is filled has 16 zeros.
use Rattle.std.proofs.Common.{◌≡◌, refl, ap, ◌∙◌, arith, ℕ, ◌+◌, ◌-◌, length, length-take, length-drop}
use Rattle.std.specs.Prelude.{take, drop, replicate}
use Rattle.std.proofs.lemmas.Slice.{put_mid-paste}
use Rattle.decoding.specs.Blocks.{zeros}
use Rattle.blocks.proofs.frozen.put_zeros.Goals as goal

pub returns : goal.returns
returns c =
    let y = c.args.path.now in
    let i = c.args.i in
    let k : i + 16 - i ≡ 16 = omega arith in
    let long : length (take (i + 16 - i) (drop i y)) ≡ 16 =
    omega (arith, length-take (i + 16 - i) (drop i y), length-drop i y) in
    put_mid-paste i (i + 16 - i) y c.fill.new.self (zeros 16) 16
    (c.fill.ensures.after (λ x h. h) ∙ ap (λ (n : ℕ). replicate n 0) long) (omega arith) refl
