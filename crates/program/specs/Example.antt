-- The rules' example: the bytes 21 00 5F FE 00 30 01 give its two lines. Which refusals end a capture, and the allowance that the program names.
use Rattle.std.specs.Prelude.{◌≡◌, refl, [], ◌∷◌, ◌<◌}
use Rattle.std.proofs.Common.{arith}
use Rattle.numbers.specs.Sums.{total, tabulate, sum}
use Rattle.numbers.specs.Least.{least, without, next, first_with}
use Rattle.words.specs.Bits.{digit, ones}
use Rattle.words.specs.Word.{transform}
use Rattle.words.specs.Kinds.{kind, kinds, all_bits}
use Rattle.decoding.specs.Readings.{penalty}
use Rattle.decoding.specs.Best.{penalties, least_penalty, gap, best_bits, best_word}
use Rattle.decoding.specs.Walk.{value, walk, walked}
use Rattle.decoding.specs.Answer.{answer}
use Rattle.code.specs.Sound.{made, default_allowance}
use Rattle.code.specs.Entries.{first_above}
use Rattle.packing.specs.Layout.{unpacked, part_length, pad_of}
use Rattle.record.specs.Reader.{header_of}
use Rattle.lines.specs.Line.{bytes_of, decimal_within, info_text, figures_text, answer_line, refused_line, total_line}
use Rattle.program.specs.Program.{allowance, result_of, output_from, output}

pub example : output (0x21 ∷ 0x00 ∷ 0x5F ∷ 0xFE ∷ 0x00 ∷ 0x30 ∷ 0x01 ∷ []) ≡ bytes_of "0 info 011 penalty 1 margin 1 visits 9\n1 read, 0 refused\n"
unfolding total tabulate sum least without next first_with digit ones transform kind kinds all_bits penalty penalties least_penalty gap best_bits best_word
    value walk walked answer made first_above unpacked part_length pad_of header_of
    bytes_of decimal_within info_text figures_text answer_line refused_line total_line result_of output_from output
example = refl

-- which refusals end the capture: after 9 (a pad bit) the next record is read; after 1 and 8 nothing is
pub record Ends : Type 0 where
  pub goes_on : output (0x00 ∷ 0x80 ∷ 0x01 ∷ 0x00 ∷ 0x00 ∷ 0x30 ∷ [])
      ≡ bytes_of "0 refused 9\n1 info 0 penalty 0 margin 3 visits 2\n1 read, 1 refused\n"
  pub ends_at_1 : output (0x90 ∷ 0x00 ∷ 0x00 ∷ 0x30 ∷ []) ≡ bytes_of "0 refused 1\n0 read, 1 refused\n"
  pub ends_at_8 : output (0x21 ∷ 0x00 ∷ 0x00 ∷ 0x30 ∷ []) ≡ bytes_of "0 refused 8\n0 read, 1 refused\n"

pub ends : Ends
unfolding total tabulate sum least without next first_with digit ones transform kind kinds all_bits penalty penalties least_penalty gap best_bits best_word
    value walk walked answer made first_above unpacked part_length pad_of header_of
    bytes_of decimal_within info_text figures_text answer_line refused_line total_line result_of output_from output
ends = record { goes_on = refl; ends_at_1 = refl; ends_at_8 = refl }

-- the program's allowance, and that it is above the calls' own
pub named : allowance ≡ 1000000
named = refl

pub above_default : default_allowance < allowance
above_default = omega arith
