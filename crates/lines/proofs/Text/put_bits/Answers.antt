-- `lines::Text::put_bits` meets its contract: each digit comes after those before it.
use Rattle.std.proofs.Common.{◌∙◌, length-set, arith}
use Rattle.std.proofs.lemmas.List.{map_more}
use Rattle.lines.specs.Line.{digit_byte}
use Rattle.lines.specs.LineLaws.{put_more}
use Rattle.lines.proofs.Text.put_bits.Goals as goal

pub loop-i-preserved : goal.loop-i-preserved
loop-i-preserved c =
    let o = c.loop-i in
    let k = o.invariant in record {
      same_buffer = k.same_buffer;
      same_length = length-set o.self.out.now _ _ ∙ k.same_length;
      same_place = k.same_place;
      put = rw (map_more digit_byte c.args.bits.now o.i 0 (omega arith)) (put_more _ k (omega arith));
    }
