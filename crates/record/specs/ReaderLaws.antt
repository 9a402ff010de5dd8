-- Laws of the reader's answers: what a header shows, and which bytes are accepted.
use Rattle.std.specs.Prelude.{◌≡◌, refl, List, [], ◌∷◌, ℕ, zero, suc, ◌+◌, ◌-◌, ◌/◌, ◌%◌, ◌^◌, ◌≤◌, ◌<◌, length, get_or, take, drop, Result, Ok, Err}
use Rattle.std.proofs.Common.{ap, subst, ⊎_elim, arith, length-drop, length-take-le, get_or-take, get_or-drop, lt-ltb, le-ltb, eq-eqb, ne_eqb}
use Rattle.numbers.specs.Choice.{lt_or_le}
use Rattle.code.specs.Sound.{Sound}
use Rattle.code.specs.SoundLaws.{made_of, length_most}
use Rattle.code.specs.declared.Code.{Code}
use Rattle.code.specs.declared.Refusal.TheVariants.{Torn, Pad}
use Rattle.packing.specs.Layout.{part_length, pad_of}
use Rattle.packing.specs.LayoutLaws.{length_readings}
use Rattle.record.specs.Reader.{code_of, part_of, readings_of, headed_by, header_of}
use Rattle.code.specs.declared.Refusal.{Refusal}

-- the packed part has at most 384 bytes
pub part_small : (c : Code) → Sound c → part_length c.m ≤ 384
unfolding part_length
part_small c s = omega (arith, length_most s)

-- the three answers of a header, by its tests
module _ (c : Code) (s : List ℕ) where
  pub frame_torn : length s - 1 < part_length c.m → headed_by (Ok c) s ≡ Err Torn
  frame_torn h = rw (lt-ltb (length s - 1) (part_length c.m) h)

  pub frame_pad : part_length c.m ≤ length s - 1 → (pad_of c.m (part_of c s) ≡ 0 → ⊥) → headed_by (Ok c) s ≡ Err Pad
  frame_pad h z = rw (le-ltb (length s - 1) (part_length c.m) h, ne_eqb (pad_of c.m (part_of c s)) 0 z)

  pub frame_whole : part_length c.m ≤ length s - 1 → pad_of c.m (part_of c s) ≡ 0 → headed_by (Ok c) s ≡ Ok c
  frame_whole h z = rw (le-ltb (length s - 1) (part_length c.m) h, eq-eqb (pad_of c.m (part_of c s)) 0 z)

-- the pad bits, as the code looks at them
pub pad_third : (m : ℕ) (s : List ℕ) → m ≡ 0 → pad_of m (take (part_length m) (drop 1 s)) ≡ get_or s 2 0 % 16
unfolding pad_of part_length
pad_third zero s e = rw (get_or-take 2 (drop 1 s) 1 0 (omega arith), get_or-drop 1 s 1 0)
pad_third (suc m) s e = absurd (omega arith)

pub pad_none : (m : ℕ) (p : List ℕ) → (m ≡ 0 → ⊥) → pad_of m p ≡ 0
unfolding pad_of
pad_none zero p h = absurd (h refl)
pad_none (suc m) p h = refl

pub part_of-one : (m : ℕ) → m ≡ 0 → part_length m ≡ 2
unfolding part_length
part_of-one m e = rw e

-- what is reported for bytes whose header is accepted
pub record Framed (s : List ℕ) (c : Code) : Type 0 where
  pub said : code_of (get_or s 0 0) ≡ Ok c
  pub sound : Sound c
  pub whole : suc (part_length c.m) ≤ length s
  pub clear : pad_of c.m (part_of c s) ≡ 0

framed_by : (first : ℕ) (s : List ℕ) (c : Code) (k : Result Code Refusal) → code_of first ≡ k → headed_by k (first ∷ s) ≡ Ok c → Framed (first ∷ s) c
framed_by first s c (Err _) q e = let z : ◌≡◌ {A = ℕ} 0 1 = cc in absurd (omega arith)
framed_by first s c (Ok d) q e =
    let t = first ∷ s in
    ⊎_elim
    (λ k. let z : ◌≡◌ {A = ℕ} 0 1 = cc (frame_torn d t k) in absurd (omega arith))
    (λ k.
    ⊎_elim
    (λ n. let z : ◌≡◌ {A = ℕ} 0 1 = cc (frame_pad d t k (λ w. omega (arith, w))) in absurd (omega arith))
    (λ n.
    let z : pad_of d.m (part_of d t) ≡ 0 = omega arith in
    let same : d ≡ c = cc (frame_whole d t k z) in
    subst (Framed t) same (record { said = q; sound = (made_of (first % 16) (first / 16) d q).sound; whole = omega arith; clear = z }))
    (lt_or_le 0 (pad_of d.m (part_of d t))))
    (lt_or_le (length t - 1) (part_length d.m))

pub framed_record : (s : List ℕ) (c : Code) → header_of s ≡ Ok c → Framed s c
unfolding header_of
framed_record [] c e = let z : ◌≡◌ {A = ℕ} 0 1 = cc in absurd (omega arith)
framed_record (first ∷ s) c e = framed_by first s c (code_of first) refl e

-- the answers of the first test, and by the first byte
pub frame_empty : (s : List ℕ) → length s ≡ 0 → header_of s ≡ Err Torn
unfolding header_of
frame_empty [] e = refl
frame_empty (first ∷ s) e = absurd (omega arith)

pub frame_by : (s : List ℕ) (k : Result Code Refusal) → (length s ≡ 0 → ⊥) → code_of (get_or s 0 0) ≡ k → header_of s ≡ headed_by k s
unfolding header_of
frame_by [] k h q = absurd (h refl)
frame_by (first ∷ s) k h q = ap (λ (k : Result Code Refusal). headed_by k (first ∷ s)) q

-- the packed part as the code takes it, and its readings
pub part_taken : (c : Code) (s : List ℕ) (k : ℕ) → k ≡ part_length c.m → take ((1 + k) - 1) (drop 1 s) ≡ part_of c s
part_taken c s k e = let d : (1 + k) - 1 ≡ part_length c.m = omega arith in rw d

pub length_part : (c : Code) (s : List ℕ) → suc (part_length c.m) ≤ length s → length (part_of c s) ≡ part_length c.m
length_part c s h = length-take-le (part_length c.m) (drop 1 s) (simp length-drop (omega arith))

pub length-readings_of : (c : Code) (s : List ℕ) → suc (part_length c.m) ≤ length s → length (readings_of c s) ≡ 2 ^ c.m
length-readings_of c s h = length_readings c.m (part_of c s) (length_part c s h)
