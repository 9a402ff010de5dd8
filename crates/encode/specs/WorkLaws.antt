-- What the steps of the work require: a scratch array z of 256 bytes whose front, of n bytes, came back as k.
use Rattle.std.specs.Prelude.{◌≡◌, List, ℕ, ◌-◌, ◌^◌, ◌≤◌, length, take, replicate}
use Rattle.std.proofs.Common.{ap, ap₂, sym, ◌∙◌, arith, length-take-le}
use Rattle.std.proofs.Math.Nat.{sub-zero}
use borrow.Rule.Slice.PartMut.{mid_of, put_mid, same_len_mid}
use Rattle.numbers.specs.Sums.{sum}
use Rattle.numbers.specs.Lent.{lent_again}
use Rattle.words.specs.Bits.{Bits}
use Rattle.words.specs.Word.{transform}
use Rattle.words.specs.Kinds.{kinds, dimension, fill}
use Rattle.words.specs.Inverse.{taken_back}
use Rattle.words.specs.TransformLaws.{length-transform}
use Rattle.words.proofs.KindLaws.{length-kinds, sum-kinds, bits_kinds}
use Rattle.words.proofs.FillLaws.{length-fill, bits_fill}
use Rattle.code.specs.declared.Code.{Code}
use Rattle.code.specs.Sound.{Sound}
use Rattle.code.specs.SoundLaws.{length_most}
use Rattle.encode.specs.Outcome.{Outcome, taking_back}
use Rattle.encode.specs.Work.{taking_row}
use Rattle.encode.specs.OutcomeLaws.{taking_word}

-- n bytes of scratch
pub zeros-lent : (c : Code) (n : ℕ) → Sound c → n ≡ 2 ^ c.m → length (take (n - 0) (replicate {A = ℕ} 256 0)) ≡ 2 ^ c.m
zeros-lent c n s e =
    ap (λ (k : ℕ). length (take k (replicate {A = ℕ} 256 0))) (sub-zero n) ∙ length-take-le n (replicate {A = ℕ} 256 0) (omega (arith, length_most s)) ∙ e

module _ (n : ℕ) (z k : List ℕ) (long : length k ≡ length (mid_of 0 (n - 0) z)) where
  -- the front is within the array as before
  pub still_within : n ≤ length z → n ≤ length (put_mid 0 (n - 0) z k)
  still_within h = omega (arith, same_len_mid 0 (n - 0) z k long)

-- the row of information bits is transformed
pub filled_asked : (r m : ℕ) (u bits : List ℕ) → u ≡ fill (kinds r m) bits → Bits bits → (length u ≡ 2 ^ m) × Bits u
filled_asked r m u bits f b = rw f (length-fill (kinds r m) bits ∙ length-kinds r m, bits_fill (kinds r m) bits b)

module _ (r m n : ℕ) (z k : List ℕ) (is : k ≡ kinds r m) (e : n ≡ 2 ^ m) where
  -- it is read again as the kinds
  pub kinds-read : mid_of 0 (n - 0) (put_mid 0 (n - 0) z k) ≡ kinds r m
  kinds-read = lent_again n z k (ap length is ∙ length-kinds r m ∙ sym e) ∙ is

  pub fill_asked : (bits word : List ℕ) → length bits ≡ dimension r m → length word ≡ 2 ^ m
      → (length word ≡ length (mid_of 0 (n - 0) (put_mid 0 (n - 0) z k))) × (sum (mid_of 0 (n - 0) (put_mid 0 (n - 0) z k)) ≤ length bits)
  fill_asked bits word b w =
      rw kinds-read (w ∙ sym (length-kinds r m), omega (arith, sum-kinds r m))

  -- the row that they fill
  pub filled_row : (u bits : List ℕ) → u ≡ fill (mid_of 0 (n - 0) (put_mid 0 (n - 0) z k)) bits → u ≡ fill (kinds r m) bits
  filled_row u bits f = f ∙ ap (λ (ks : List ℕ). fill ks bits) kinds-read

  -- the row of a word, in a second such array
  module _ (x u : List ℕ) (long : length x ≡ 2 ^ m) (t : u ≡ transform m x) where
    row_read : mid_of 0 (n - 0) (put_mid 0 (n - 0) z u) ≡ transform m x
    row_read = lent_again n z u (ap length t ∙ length-transform m x long ∙ sym e) ∙ t

    pub take_asked : (bits : List ℕ) → length bits ≡ dimension r m
        → (length (mid_of 0 (n - 0) (put_mid 0 (n - 0) z u)) ≡ length (mid_of 0 (n - 0) (put_mid 0 (n - 0) z k)))
        × (length bits ≡ sum (mid_of 0 (n - 0) (put_mid 0 (n - 0) z k)))
        × Bits (mid_of 0 (n - 0) (put_mid 0 (n - 0) z k))
    take_asked bits b =
        rw (kinds-read, row_read) (length-transform m x long ∙ sym (length-kinds r m), b ∙ sym (sum-kinds r m), bits_kinds r m)

    pub taken_word : (bits : List ℕ) (o : Outcome) → o ≡ taking_row (mid_of 0 (n - 0) (put_mid 0 (n - 0) z k)) (mid_of 0 (n - 0) (put_mid 0 (n - 0) z u)) bits
        → o ≡ taking_back (taken_back m (kinds r m) x) bits
    taken_word bits o h = h ∙ ap₂ (λ (ks v : List ℕ). taking_row ks v bits) kinds-read row_read ∙ taking_word m (kinds r m) x bits
