-- What an outcome of `quick` says: if it is done, the bits encode to the word, which is a word of the code, with its own penalty, at least the least;
-- if it is refused, the number is that of the first test that applies, and both buffers are unchanged.
use Rattle.std.specs.Prelude.{◌≡◌, refl, List, ℕ, ◌^◌, ◌≤◌, ◌<◌, ℤ, length}
use Rattle.std.proofs.Common.{ap, sym, arith}
use Rattle.words.specs.Bits.{Bits}
use Rattle.words.specs.Kinds.{kinds, encoded, Word}
use Rattle.words.proofs.KindLaws.{length-kinds, bits_kinds}
use Rattle.decoding.specs.Readings.{penalty}
use Rattle.decoding.specs.Best.{least_penalty}
use Rattle.decoding.specs.Quick.{quick_word, quick_bits, quick_penalty}
use Rattle.decoding.specs.QuickLaws.{encoded_quick, quick-word, quick_least}
use Rattle.code.specs.Sound.{Carried, rm}
use Rattle.code.specs.SoundInput.{SoundReadings}
use Rattle.code.specs.AdmittedLaws.{allows, refuses, decided, sound_allowed}
use Rattle.code.specs.RefusalLaws.{carries_none, number_above}
use Rattle.quick.specs.Outcome.{Outcome, done, reading_by, quick_reading}
use Rattle.quick.specs.OutcomeLaws.{reading-refused, reading-done}

-- over the words of any row of kinds
pub record QuickDone (m : ℕ) (ks : List ℕ) (l : List ℤ) (o : Outcome) : Type 0 where
  pub encodes : encoded m ks o.bits ≡ o.word
  pub is_word : Word m ks o.word
  pub own-penalty : o.penalty ≡ penalty l o.word
  pub not-below : least_penalty m ks l ≤ o.penalty

pub record QuickRefused (bits word : List ℕ) (o : Outcome) : Type 0 where
  pub first_tests : o.number < 5
  pub no_penalty : o.penalty ≡ 0
  pub kept_bits : o.bits ≡ bits
  pub kept_word : o.word ≡ word

-- the written steps do so
pub done_by : (m : ℕ) (ks : List ℕ) (l : List ℤ) → length ks ≡ 2 ^ m → Bits ks
    → QuickDone m ks l (done (quick_penalty m ks l) (quick_bits m ks l) (quick_word m ks l))
unfolding quick_penalty
done_by m ks l long are =
    record {
      encodes = encoded_quick m ks l long are;
      is_word = quick-word m ks l long are;
      own-penalty = refl;
      not-below = quick_least m ks l long are;
    }

module _ (r m : ℕ) (l : List ℤ) (bits word : List ℕ) where
  -- done exactly if none of the tests applies
  pub quick_done : (quick_reading r m l bits word).number ≡ 0
      → SoundReadings (rm r m) l (length bits) (length word) × QuickDone m (kinds r m) l (quick_reading r m l bits word)
  quick_done z =
      elim (decided r m l (length bits) (length word)) [
        | allows c e is a ↦
            let read = reading-done r m l bits word c (reading_by c l) e refl in
            (rw is at a, rw (← read, is) (done_by m (kinds r m) l (length-kinds r m) (bits_kinds r m)))
        | refuses why e h ↦ absurd (omega (arith, number_above why, ap (λ (o : Outcome). o.number) (reading-refused r m l bits word why e)))
      ]

  pub quick_answers : SoundReadings (rm r m) l (length bits) (length word) → (quick_reading r m l bits word).number ≡ 0
  quick_answers a =
      let is = reading-done r m l bits word (rm r m) (reading_by (rm r m) l) (sound_allowed r m l (length bits) (length word) a) refl in
      ap (λ (o : Outcome). o.number) (sym is)

  pub quick_refused : 0 < (quick_reading r m l bits word).number → QuickRefused bits word (quick_reading r m l bits word)
  quick_refused z =
      elim (decided r m l (length bits) (length word)) [
        | allows c e is a ↦ absurd (omega (arith, ap (λ (o : Outcome). o.number) (reading-done r m l bits word c (reading_by c l) e refl)))
        | refuses why e h ↦ rw (← reading-refused r m l bits word why e)
            (record {
              first_tests = h;
              no_penalty = ap (λ (c : Carried). c.penalty) (carries_none why (λ k. omega arith) (λ k. omega arith));
              kept_bits = refl;
              kept_word = refl;
            })
      ]
