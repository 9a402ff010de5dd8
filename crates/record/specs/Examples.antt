-- Examples of the layout, of the header and of the writer: the rules' record, and the orders of refusals.
use Rattle.std.specs.Prelude.{◌≡◌, refl, [], ◌∷◌, ◌++◌, pos, negsuc, replicate, Ok, Err}
use Rattle.decoding.specs.Examples.{sample}
use Rattle.code.specs.Sound.{made, rm}
use Rattle.code.specs.Entries.{first_above}
use Rattle.code.specs.declared.Refusal.TheVariants.{Parameters, OutputLength, Entry, Torn, Pad}
use Rattle.packing.specs.Layout.{record_of, packed, unpacked, part_length, pad_of}
use Rattle.record.specs.Reader.{readings_of, header_of}
use Rattle.record.specs.Writing.{outcome_of, writable, writing}

pub record Examples : Type 0 where
  -- RM(1,2), readings 5, -2, 3, 1: 21 005 FFE 003 001
  pub record_12 : record_of 1 2 sample ≡ 0x21 ∷ 0x00 ∷ 0x5F ∷ 0xFE ∷ 0x00 ∷ 0x30 ∷ 0x01 ∷ []
  pub unpacked_12 : unpacked (0x00 ∷ 0x5F ∷ 0xFE ∷ 0x00 ∷ 0x30 ∷ 0x01 ∷ []) ≡ sample
  -- one reading, -1, has four pad bits
  pub record_00 : record_of 0 0 (negsuc 0 ∷ []) ≡ 0x00 ∷ 0xFF ∷ 0xF0 ∷ []
  -- bytes after the record stay for the next one
  pub accepted : header_of (record_of 1 2 sample ++ 0x90 ∷ []) ≡ Ok (record { r = 1; m = 2 })
  pub no_byte : header_of [] ≡ Err Torn
  pub lone_90 : header_of (0x90 ∷ []) ≡ Err Parameters
  pub lone_12 : header_of (0x12 ∷ []) ≡ Err Parameters
  pub lone_21 : header_of (0x21 ∷ []) ≡ Err Torn
  pub pad_and_rail : header_of (0x00 ∷ 0x80 ∷ 0x01 ∷ []) ≡ Err Pad
  -- a record between two bytes that stay; one byte less is no room, and neither is a place beyond the end
  pub written : writing 1 2 sample (replicate 9 0xAA) 1
      ≡ outcome_of (Ok 8) (0xAA ∷ 0x21 ∷ 0x00 ∷ 0x5F ∷ 0xFE ∷ 0x00 ∷ 0x30 ∷ 0x01 ∷ 0xAA ∷ [])
  pub no_room : writing 1 2 sample (replicate 7 0xAA) 1 ≡ outcome_of (Err OutputLength) (replicate 7 0xAA)
  pub beyond : writing 0 0 (pos 1 ∷ []) (0xAA ∷ []) 9 ≡ outcome_of (Err OutputLength) (0xAA ∷ [])
  -- 4 comes before 3
  pub bad-reading : writing 1 1 (pos 1 ∷ pos 2048 ∷ []) [] 0 ≡ outcome_of (Err (Entry 1)) []
  -- RM(1,1), 11 001 800: the bottom rail is accepted, and read as -2,047
  pub rail : header_of (0x11 ∷ 0x00 ∷ 0x18 ∷ 0x00 ∷ []) ≡ Ok (rm 1 1)
  pub rail_read : readings_of (rm 1 1) (0x11 ∷ 0x00 ∷ 0x18 ∷ 0x00 ∷ []) ≡ pos 1 ∷ negsuc 2046 ∷ []
  -- written again it is other bytes, 11 001 801, which are read the same
  pub rail_again : record_of 1 1 (pos 1 ∷ negsuc 2046 ∷ []) ≡ 0x11 ∷ 0x00 ∷ 0x18 ∷ 0x01 ∷ []
  pub rail_same : readings_of (rm 1 1) (0x11 ∷ 0x00 ∷ 0x18 ∷ 0x01 ∷ []) ≡ pos 1 ∷ negsuc 2046 ∷ []
  -- a record without it, 11 001 802, is written again to its own bytes
  pub no_rail_again : record_of 1 1 (readings_of (rm 1 1) (0x11 ∷ 0x00 ∷ 0x18 ∷ 0x02 ∷ [])) ≡ 0x11 ∷ 0x00 ∷ 0x18 ∷ 0x02 ∷ []

pub examples : Examples
unfolding made first_above record_of packed unpacked part_length pad_of header_of writable writing
examples =
    record {
      record_12 = refl;
      unpacked_12 = refl;
      record_00 = refl;
      accepted = refl;
      no_byte = refl;
      lone_90 = refl;
      lone_12 = refl;
      lone_21 = refl;
      pad_and_rail = refl;
      written = refl;
      no_room = refl;
      beyond = refl;
      bad-reading = refl;
      rail = refl;
      rail_read = refl;
      rail_again = refl;
      rail_same = refl;
      no_rail_again = refl;
    }
