-- The outcome at each place where a call returns.
use Rattle.std.specs.Prelude.{◌≡◌, List, ℕ, ◌^◌, ℤ, length, Ok, Err}
use Rattle.std.proofs.Common.{subst, ◌∙◌}
use Rattle.numbers.specs.Sums.{sum}
use Rattle.words.specs.Kinds.{kinds}
use Rattle.words.proofs.KindLaws.{length-kinds, bits_kinds}
use Rattle.code.specs.declared.Code.{Code}
use Rattle.code.specs.declared.Refusal.{Refusal}
use Rattle.code.specs.Sound.{Sound, made, rm}
use Rattle.code.specs.SoundLaws.{made_good}
use Rattle.code.specs.SoundInput.{GoodReadings, SoundFor}
use Rattle.code.specs.Admitted.{admitted_by}
use Rattle.code.specs.AdmittedLaws.{tested-made, allowed_sound_for}
use Rattle.named.specs.Named.{GoodRow, row_admitted}
use Rattle.named.specs.NamedLaws.{good-row, row_allowed, allowed_row}
use Rattle.encode.specs.Outcome as encoder
use Rattle.quick.specs.Outcome as reader
use Rattle.shortened.specs.Outcome.{left_of, encoding_over, inverting_over, quick_over, encoding_shortened, inverting_shortened, quick_shortened}

module _ (r m : ℕ) (named : List ℕ) where
  module _ (why : Refusal) (e : Err why ≡ row_admitted r m named) where
    pub encoding-refused : (bits word : List ℕ) → encoder.refused why word ≡ encoding_shortened r m named bits word
    unfolding encoding_shortened
    encoding-refused bits word = rw (← e)

    pub inverting-refused : (word bits : List ℕ) → encoder.refused why bits ≡ inverting_shortened r m named word bits
    unfolding inverting_shortened
    inverting-refused word bits = rw (← e)

    pub quick_refused : (l : List ℤ) (bits word : List ℕ) → reader.refused why bits word ≡ quick_shortened r m named l bits word
    unfolding quick_shortened
    quick_refused l bits word = rw (← e)

  module _ (c : Code) (e : Ok c ≡ row_admitted r m named) where
    pub encoding-left : (bits word : List ℕ) → encoding_over (left_of named c) c bits word ≡ encoding_shortened r m named bits word
    unfolding encoding_shortened
    encoding-left bits word = rw (← e)

    pub inverting-left : (word bits : List ℕ) → inverting_over (left_of named c) c word bits ≡ inverting_shortened r m named word bits
    unfolding inverting_shortened
    inverting-left word bits = rw (← e)

    pub quick-left : (l : List ℤ) (bits word : List ℕ) → quick_over (left_of named c) c l bits word ≡ quick_shortened r m named l bits word
    unfolding quick_shortened
    quick-left l bits word = rw (← e)

-- what a call knows of the code and the row that are allowed
pub record Allowed (named : List ℕ) (c : Code) : Type 0 where
  pub sound : Sound c
  pub good : made c.r c.m ≡ Ok c
  pub row : GoodRow named (kinds c.r c.m)
  pub long-named : length named ≡ 2 ^ c.m

pub is_allowed : (r m : ℕ) (named : List ℕ) (c : Code) → Ok c ≡ row_admitted r m named → Allowed named c
is_allowed r m named c e =
    let shown = allowed_row r m named c e in
    record {
      sound = shown.1;
      good = made_good c.r c.m shown.1.m_small shown.1.r_small;
      row = shown.2;
      long-named = shown.2.long ∙ length-kinds c.r c.m;
    }

-- a good row of a sound code is allowed
pub good_allowed : (r m : ℕ) (named : List ℕ) → Sound (rm r m) → GoodRow named (kinds r m) → Ok (rm r m) ≡ row_admitted r m named
good_allowed r m named s g = row_allowed r m named (rm r m) (made_good r m s.m_small s.r_small) (good-row named (kinds r m) (bits_kinds r m) g)

-- ---- tests 2 to 4 of readings
pub allowed_over : (c : Code) (expected : ℕ) (l : List ℤ) (k n : ℕ) → Sound c → (d : Code) → Ok d ≡ admitted_by c expected l k n
    → (d ≡ c) × SoundFor c expected k n (GoodReadings c l)
allowed_over c expected l k n s d e =
    let good = made_good c.r c.m s.m_small s.r_small in
    let a = allowed_sound_for (λ x. expected) c.r c.m l k n d (e ∙ tested-made (λ x. expected) c.r c.m l k n c good) in
    (a.0, subst (λ (x : Code). SoundFor x expected k n (GoodReadings x l)) a.0 a.1)

module _ (ks : List ℕ) (c : Code) (l : List ℤ) (bits word : List ℕ) where
  pub over-refused : (why : Refusal) → Err why ≡ admitted_by c (sum ks) l (length bits) (length word)
      → reader.refused why bits word ≡ quick_over ks c l bits word
  over-refused why e = rw (← e)

  pub over_done : (d : Code) → Ok d ≡ admitted_by c (sum ks) l (length bits) (length word) → reader.reading_over d.m ks l ≡ quick_over ks c l bits word
  over_done d e = rw (← e)
