-- `put_word`: the bits are the telegram's, and the encoder writes their word.
use Rattle.std.specs.Prelude.{ℕ, List, length}
use Rattle.std.proofs.Common.{ap, sym, ◌∙◌, arith}
use Rattle.encode.specs.Outcome as Encode
use Rattle.telegram.specs.TelegramLaws.{length_bits}
use Rattle.telegram.proofs.OutcomeLaws.{length-second, bits_put, word-written}
use Rattle.telegram.proofs.put_word.Goals as goal

pub slice_bounds-bits-end-3 : goal.slice_bounds-bits-end-3
slice_bounds-bits-end-3 c = omega (arith, length-second c.args.telegram _ c.put_number.ensures _ c.put_number-2.ensures)

pub slice_bounds-encode-end : goal.slice_bounds-encode-end
slice_bounds-encode-end c =
    let t = c.args.telegram in
    sym (ap length (bits_put t _ c.put_number.ensures _ c.put_number-2.ensures _ c.put_number-3.ensures) ∙ length_bits 0 t)

pub returns : goal.returns
returns c =
    let t = c.args.telegram in
    let bits = bits_put t _ c.put_number.ensures _ c.put_number-2.ensures _ c.put_number-3.ensures in
    let e = c.encode in
    word-written t c.args.word.now c.requires e.result e.new.word
    (e.ensures ∙ ap (λ (b : List ℕ). Encode.encoding 2 5 b c.args.word.now) bits)
