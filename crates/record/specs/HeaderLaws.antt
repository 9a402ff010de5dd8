-- Laws for reading one record after another: an accepted code is sound, a record has at most 385 bytes and is there completely unless it is refused
-- as 1 or 8, and what follows a record changes nothing.
use Rattle.std.specs.Prelude.{◌≡◌, refl, ℕ, suc, ◌-◌, ◌/◌, ◌%◌, ◌≤◌, ◌<◌, get_or, Result, Ok, Err}
use Rattle.std.proofs.Common.{ap, ⊎_elim, arith, length-append, le-ltb}
use mathlib.Core.List.{List, [], ◌∷◌, ◌++◌}
use Rattle.std.proofs.Math.ListN.{length}
use Rattle.std.proofs.lemmas.List.{take-append-le}
use Rattle.numbers.specs.Choice.{lt_or_le}
use Rattle.code.specs.Sound.{Sound}
use Rattle.code.specs.SoundLaws.{made_of}
use Rattle.code.specs.declared.Code.{Code}
use Rattle.code.specs.declared.Refusal.TheVariants.{Parameters, Torn}
use Rattle.packing.specs.Layout.{unpacked, part_length}
use Rattle.record.specs.Reader.{code_of, length_by, part_of, readings_of, headed_by, header_of}
use Rattle.record.specs.ReaderLaws.{part_small, frame_torn, framed_record}
use Rattle.code.specs.declared.Refusal.{Refusal}

pub header_sound : (s : List ℕ) (c : Code) → header_of s ≡ Ok c → Sound c
header_sound s c h = (framed_record s c h).sound

length_by_lem : (first : ℕ) (k : Result Code Refusal) → code_of first ≡ k → length_by k ≤ 385
length_by_lem first (Err _) e = omega arith
length_by_lem first (Ok c) e = omega (arith, part_small c (made_of (first % 16) (first / 16) c e).sound)

pub record_small : (first : ℕ) → length_by (code_of first) ≤ 385
record_small first = length_by_lem first (code_of first) refl

-- the bytes that the first one announces are there, and there is at least one
pub record There (s : List ℕ) : Type 0 where
  pub some : 0 < length_by (code_of (get_or s 0 0))
  pub whole : length_by (code_of (get_or s 0 0)) ≤ length s

there_by : (first : ℕ) (s : List ℕ) (k : Result Code Refusal) → code_of first ≡ k
    → (headed_by k (first ∷ s) ≡ Err Parameters → ⊥) → (headed_by k (first ∷ s) ≡ Err Torn → ⊥) → (0 < length_by k) × (length_by k ≤ suc (length s))
there_by first s (Err _) e p t = absurd (p refl)
there_by first s (Ok c) e p t =
    ⊎_elim (λ k. absurd (t (frame_torn c (first ∷ s) k))) (λ k. (omega arith, omega arith)) (lt_or_le (length (first ∷ s) - 1) (part_length c.m))

-- if the header is refused neither as 1 nor as 8
pub header_there : (s : List ℕ) → (header_of s ≡ Err Parameters → ⊥) → (header_of s ≡ Err Torn → ⊥) → There s
unfolding header_of
header_there [] p t = absurd (t refl)
header_there (first ∷ s) p t =
    let r = there_by first s (code_of first) refl p t in
    record { some = r.0; whole = r.1 }

-- the part of a record that is there completely
part-before : (c : Code) (s rest : List ℕ) → suc (part_length c.m) ≤ length s → part_of c (s ++ rest) ≡ part_of c s
part-before c [] rest h = absurd (omega arith)
part-before c (first ∷ s) rest h = take-append-le (part_length c.m) s rest (omega arith)

framed_before : (first : ℕ) (s rest : List ℕ) (k : Result Code Refusal) → length_by k ≤ suc (length s)
    → headed_by k (first ∷ (s ++ rest)) ≡ headed_by k (first ∷ s)
framed_before first s rest (Err _) h = refl
framed_before first s rest (Ok c) h =
    let n = part_length c.m in
    rw (
      part-before c (first ∷ s) rest h,
      le-ltb (length (first ∷ s) - 1) n (omega arith),
      le-ltb (length (first ∷ (s ++ rest)) - 1) n (omega (arith, length-append s rest)),
    )

module _ (s rest : List ℕ) where
  -- for a record that is there completely, or whose first byte is refused: bytes after it change neither its header nor its readings
  pub header_before : 0 < length s → length_by (code_of (get_or s 0 0)) ≤ length s → header_of (s ++ rest) ≡ header_of s
  unfolding header_of
  header_before = before s
    where
      before : (s : List ℕ) → 0 < length s → length_by (code_of (get_or s 0 0)) ≤ length s → header_of (s ++ rest) ≡ header_of s
      before [] h n = absurd (omega arith)
      before (first ∷ s) h n = framed_before first s rest (code_of first) n

  pub readings_before : (c : Code) → header_of s ≡ Ok c → readings_of c (s ++ rest) ≡ readings_of c s
  readings_before c h = ap unpacked (part-before c s rest (framed_record s c h).whole)
