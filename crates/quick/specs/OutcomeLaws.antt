-- The outcome at each place where `quick` returns, and what the work in between requires.
use Rattle.std.specs.Prelude.{◌≡◌, List, ℕ, ◌-◌, ◌^◌, ◌≤◌, ◌<◌, ℤ, length, Ok, Err}
use Rattle.std.proofs.Common.{ap, sym, ◌∙◌, arith}
use borrow.Rule.Slice.PartMut.{mid_of, put_mid}
use Rattle.numbers.specs.Lent.{lent_again}
use Rattle.numbers.specs.Sums.{sum}
use Rattle.words.specs.Bits.{Bits}
use Rattle.words.specs.Word.{transform}
use Rattle.words.specs.Kinds.{kinds, pick}
use Rattle.words.proofs.KindLaws.{length-kinds, sum-kinds, bits_kinds}
use Rattle.decoding.specs.Readings.{penalty, sizes, sum_limit}
use Rattle.decoding.specs.Quick.{quick_word, quick_bits, quick_penalty}
use Rattle.decoding.specs.QuickLaws.{length_quick, bits_quick}
use Rattle.code.specs.declared.Code.{Code}
use Rattle.code.specs.declared.Refusal.{Refusal}
use Rattle.code.specs.Sound.{largest_m}
use Rattle.code.specs.SoundLaws.{length_most}
use Rattle.code.specs.Admitted.{admitted}
use Rattle.code.specs.SoundInput.{GoodReadings, SoundFor, SoundReadings}
use Rattle.bit_rows.specs.Takeable.{Takeable}
use Rattle.quick.specs.Engine.{Sized}
use Rattle.quick.specs.RunningSums.{sums_most}
use Rattle.quick.specs.Outcome.{Outcome, done, refused, reading_over, reading_by, quick_reading}

-- ---- the tests
module _ (r m : ℕ) (l : List ℤ) (bits word : List ℕ) where
  pub reading-refused : (why : Refusal) → Err why ≡ admitted r m l (length bits) (length word) → refused why bits word ≡ quick_reading r m l bits word
  unfolding quick_reading
  reading-refused why e = rw (← e)

  pub reading-done : (c : Code) (o : Outcome) → Ok c ≡ admitted r m l (length bits) (length word) → o ≡ reading_by c l → o ≡ quick_reading r m l bits word
  unfolding quick_reading
  reading-done c o e f = rw (← e) f

-- the running sums of sound readings are small
pub sums_small : {c : Code} {l : List ℤ} {expected k n : ℕ} → SoundFor c expected k n (GoodReadings c l) → sizes l < sum_limit
sums_small {l = l} a =
    omega (arith, sums_most l (omega (arith, a.entries.long, length_most a.sound)) a.entries.within)

-- ---- the work over a row of kinds: w is its quick word
module _ (m : ℕ) (ks : List ℕ) (l : List ℤ) (w : List ℕ) (is : w ≡ quick_word m ks l) where
  pub take_asked : (word bits : List ℕ) → Sized m ks word l → length bits ≡ sum ks → Bits ks → Takeable m ks w bits
  take_asked word bits s long are =
      rw is
      (record {
        long_kinds = s.long_kinds;
        long_word = length_quick m ks l;
        long_bits = long;
        bits_kinds = are;
        bits_word = bits_quick m ks l;
      })

  pub all_read : (b : List ℕ) (p : ℕ) → b ≡ pick ks (transform m w) → p ≡ penalty l w → done p b w ≡ reading_over m ks l
  unfolding quick_bits quick_penalty
  all_read b p f h = rw (h, f, is)

-- ---- the work over a code's: a scratch array z whose front, of n bytes, came back as the kinds k
module _ (c : Code) (l : List ℤ) (n : ℕ) (e : n ≡ 2 ^ c.m) (z k : List ℕ) (is : k ≡ kinds c.r c.m) where
  kinds-read : mid_of 0 (n - 0) (put_mid 0 (n - 0) z k) ≡ kinds c.r c.m
  kinds-read = lent_again n z k (ap length is ∙ length-kinds c.r c.m ∙ sym e) ∙ is

  pub read_asked : (bits word : List ℕ) → SoundReadings c l (length bits) (length word)
      → (c.m ≤ largest_m) × Sized c.m (mid_of 0 (n - 0) (put_mid 0 (n - 0) z k)) word l
      × (length bits ≡ sum (mid_of 0 (n - 0) (put_mid 0 (n - 0) z k))) × Bits (mid_of 0 (n - 0) (put_mid 0 (n - 0) z k))
  read_asked bits word g =
      rw kinds-read (
        g.sound.m_small,
        record { long_kinds = length-kinds c.r c.m; long_word = g.long_word; long_row = g.entries.long; small = sums_small g },
        g.long_bits ∙ sym (sum-kinds c.r c.m),
        bits_kinds c.r c.m,
      )

  pub code_read : (o : Outcome) → o ≡ reading_over c.m (mid_of 0 (n - 0) (put_mid 0 (n - 0) z k)) l → o ≡ reading_by c l
  code_read o e = e ∙ ap (λ (ks : List ℕ). reading_over c.m ks l) kinds-read
