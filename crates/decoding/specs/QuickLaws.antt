-- Laws of the quick reading, for any row of kinds: its word is a word of the code, its bits encode to it, and its penalty is at least the least.
use Rattle.std.specs.Prelude.{◌≡◌, refl, List, ◌++◌, ℕ, zero, suc, ◌+◌, ◌-◌, ◌^◌, ◌≤◌, ◌<◌, length, get_or, take, drop, ℤ, pos}
use Rattle.std.proofs.Math.Path.{ap}
use Rattle.std.proofs.Common.{ap₂, sym, ◌∙◌, subst, ⊎_elim, arith, length-append, take_at, drop_at, get_or-take, get_or-drop, get_or-append-add, length-take-le}
use Rattle.std.proofs.Common.{lt-ltb, le-ltb}
use Rattle.std.proofs.Math.Nat.{two-pow-succ}
use Rattle.std.proofs.Math.ListN.{get_or-append}
use Rattle.std.proofs.lemmas.List.{take-append-le}
use Rattle.std.proofs.Math.Seq.{take-append-add}
use Rattle.numbers.specs.Choice.{lt_or_le}
use Rattle.numbers.specs.Sums.{sum}
use Rattle.words.specs.Bits.{Bits, xors}
use Rattle.words.specs.Word.{transform}
use Rattle.words.specs.Kinds.{encoded, Frozen, Word}
use Rattle.words.specs.TransformLaws.{length-xors, xors-twice, bits_xors, bits_append, length-transform, bits_transform, transform-xors, transform-twice}
use Rattle.words.proofs.FillLaws.{length-pick, bits_pick, fill-pick}
use Rattle.decoding.specs.Quick.{lower_row, upper_row, decide, quick_word, quick_bits, quick_penalty}
use Rattle.decoding.specs.Walk.{value}
use Rattle.decoding.specs.Best.{least_penalty}
use Rattle.decoding.specs.BestLaws.{none_less}
use Rattle.decoding.specs.PathLaws.{hard_bit}

-- ---- the word has 2^m bits
decide_bit : (k : ℕ) (x : ℤ) → decide k x < 2
decide_bit zero x = omega arith
decide_bit (suc k) x = hard_bit x

pub length_quick : (m : ℕ) (ks : List ℕ) (l : List ℤ) → length (quick_word m ks l) ≡ 2 ^ m
unfolding quick_word
length_quick zero ks l = refl
length_quick (suc m) ks l =
    let a = quick_word m (take (2 ^ m) ks) (lower_row (2 ^ m) l) in
    let b = quick_word m (drop (2 ^ m) ks) (upper_row (2 ^ m) l a) in
    let long_a = length_quick m (take (2 ^ m) ks) (lower_row (2 ^ m) l) in
    let long_b = length_quick m (drop (2 ^ m) ks) (upper_row (2 ^ m) l a) in
    length-append (xors a b) b ∙ omega (arith, length-xors a b (long_a ∙ sym long_b), long_a, long_b, two-pow-succ m)

pub bits_quick : (m : ℕ) (ks : List ℕ) (l : List ℤ) → Bits (quick_word m ks l)
unfolding quick_word
bits_quick zero ks l zero = decide_bit (get_or ks 0 0) (get_or l 0 (pos 0))
bits_quick zero ks l (suc i) = omega arith
bits_quick (suc m) ks l i =
    let a = quick_word m (take (2 ^ m) ks) (lower_row (2 ^ m) l) in
    let b = quick_word m (drop (2 ^ m) ks) (upper_row (2 ^ m) l a) in
    bits_append (xors a b) b (bits_xors a b) (bits_quick m (drop (2 ^ m) ks) (upper_row (2 ^ m) l a)) i

-- ---- the row that it comes from is 0 at every frozen index
-- the row of (a + b, b) is the row of a, then the row of b
row_of_halves : (m : ℕ) (a b : List ℕ) → length a ≡ 2 ^ m → length b ≡ 2 ^ m → Bits a → transform (suc m) (xors a b ++ b) ≡ transform m a ++ transform m b
unfolding transform
row_of_halves m a b e f h =
    let long = length-xors a b (e ∙ sym f) ∙ e in
    let length-a = length-transform m a e in
    let length-b = length-transform m b f in
    rw (take_at (xors a b) b (2 ^ m) long, drop_at (xors a b) b (2 ^ m) long, transform-xors m a b e f)
    (ap (λ (x : List ℕ). x ++ transform m b) (xors-twice (transform m a) (transform m b) (length-a ∙ sym length-b) (bits_transform m a h)))

frozen_halves : (m : ℕ) (ks u v : List ℕ) → length u ≡ 2 ^ m → Frozen (take (2 ^ m) ks) u → Frozen (drop (2 ^ m) ks) v → Frozen ks (u ++ v)
frozen_halves m ks u v e f g i z =
    ⊎_elim
    (λ h. get_or-append u v 0 i (omega arith) ∙ f i (get_or-take (2 ^ m) ks i 0 h ∙ z))
    (λ h.
    let place : i ≡ length u + (i - 2 ^ m) = omega arith in
    let kind : 2 ^ m + (i - 2 ^ m) ≡ i = omega arith in
    ap (λ (n : ℕ). get_or (u ++ v) n 0) place ∙ get_or-append-add u v (i - 2 ^ m) 0
    ∙ g (i - 2 ^ m) (get_or-drop (2 ^ m) ks (i - 2 ^ m) 0 ∙ ap (λ (n : ℕ). get_or ks n 0) kind ∙ z))
    (lt_or_le i (2 ^ m))

pub frozen_quick : (m : ℕ) (ks : List ℕ) (l : List ℤ) → Frozen ks (transform m (quick_word m ks l))
unfolding quick_word transform
frozen_quick zero ks l zero z = rw z
frozen_quick zero ks l (suc i) z = refl
frozen_quick (suc m) ks l i z =
    let ks1 = take (2 ^ m) ks in
    let ks2 = drop (2 ^ m) ks in
    let low = lower_row (2 ^ m) l in
    let a = quick_word m ks1 low in
    let high = upper_row (2 ^ m) l a in
    let b = quick_word m ks2 high in
    let length-a = length_quick m ks1 low in
    subst (Frozen ks) (sym (row_of_halves m a b length-a (length_quick m ks2 high) (bits_quick m ks1 low)))
    (frozen_halves m ks (transform m a) (transform m b) (length-transform m a length-a) (frozen_quick m ks1 low) (frozen_quick m ks2 high))
    i z

-- ---- it is a word of the code, with its bits
module _ (m : ℕ) (ks : List ℕ) (l : List ℤ) (e : length ks ≡ 2 ^ m) (h : Bits ks) where
  row-length : length (transform m (quick_word m ks l)) ≡ length ks
  row-length = length-transform m (quick_word m ks l) (length_quick m ks l) ∙ sym e

  pub length-quick_bits : length (quick_bits m ks l) ≡ sum ks
  unfolding quick_bits
  length-quick_bits = length-pick ks (transform m (quick_word m ks l)) h row-length

  pub bits_quick_bits : Bits (quick_bits m ks l)
  unfolding quick_bits
  bits_quick_bits = bits_pick ks (transform m (quick_word m ks l)) (bits_transform m (quick_word m ks l) (bits_quick m ks l))

  -- the bits encode to the word
  pub encoded_quick : encoded m ks (quick_bits m ks l) ≡ quick_word m ks l
  unfolding quick_bits
  encoded_quick =
      ap (transform m) (fill-pick ks (transform m (quick_word m ks l)) (frozen_quick m ks l) row-length)
      ∙ transform-twice m (quick_word m ks l) (length_quick m ks l) (bits_quick m ks l)

  pub quick-word : Word m ks (quick_word m ks l)
  quick-word = record { bits = quick_bits m ks l; long = length-quick_bits; are_bits = bits_quick_bits; gives = encoded_quick }

  -- no better than the best word
  pub quick_least : least_penalty m ks l ≤ quick_penalty m ks l
  unfolding quick_penalty
  quick_least = rw encoded_quick at (none_less m ks l (quick_bits m ks l) (length-quick_bits, bits_quick_bits))

-- ---- at each index it takes the bit that the walk looks at first
-- a value in the lower half and in the upper half
value-lower : (m : ℕ) (l : List ℤ) (w : List ℕ) → length w < 2 ^ m → value (suc m) l w ≡ value m (lower_row (2 ^ m) l) w
unfolding value
value-lower m l w h = rw (lt-ltb (length w) (2 ^ m) h)

pub value-upper : (m : ℕ) (l : List ℤ) (u w : List ℕ) → length u ≡ 2 ^ m → value (suc m) l (u ++ w) ≡ value m (upper_row (2 ^ m) l (transform m u)) w
unfolding value
value-upper m l u w e =
    rw (le-ltb (length (u ++ w)) (2 ^ m) (rw (length-append u w) (omega arith)), take_at u w (2 ^ m) e, drop_at u w (2 ^ m) e)

-- the bit that the value after its own choices speaks for, or 0 if the index is frozen
pub quick_chooses : (m : ℕ) (ks : List ℕ) (l : List ℤ) (i : ℕ) → i < 2 ^ m
    → get_or (transform m (quick_word m ks l)) i 0 ≡ decide (get_or ks i 0) (value m l (take i (transform m (quick_word m ks l))))
unfolding quick_word transform value
quick_chooses zero ks l zero h = refl
quick_chooses zero ks l (suc i) h = absurd (omega arith)
quick_chooses (suc m) ks l i h =
    let n = 2 ^ m in
    let ks1 = take n ks in
    let ks2 = drop n ks in
    let low = lower_row n l in
    let a = quick_word m ks1 low in
    let high = upper_row n l a in
    let b = quick_word m ks2 high in
    let u = transform m a in
    let v = transform m b in
    let length-a = length_quick m ks1 low in
    let length-u = length-transform m a length-a in
    let j = i - n in
    rw (row_of_halves m a b length-a (length_quick m ks2 high) (bits_quick m ks1 low))
    (⊎_elim
    (λ k.
    get_or-append u v 0 i (omega arith) ∙ quick_chooses m ks1 low i k
    ∙ ap₂ decide (get_or-take n ks i 0 k) (sym (value-lower m l (take i u) (rw (length-take-le i u (omega arith)) k))
    ∙ ap (value (suc m) l) (sym (take-append-le i u v (omega arith)))))
    (λ k.
    let place : i ≡ length u + j = omega arith in
    let kind : n + j ≡ i = omega arith in
    ap (λ (x : ℕ). get_or (u ++ v) x 0) place ∙ get_or-append-add u v j 0 ∙ quick_chooses m ks2 high j (omega (arith, two-pow-succ m))
    ∙ ap₂ decide (get_or-drop n ks j 0 ∙ ap (λ (x : ℕ). get_or ks x 0) kind)
    (ap (λ (c : List ℕ). value m (upper_row n l c) (take j v)) (sym (transform-twice m a length-a (bits_quick m ks1 low)))
    ∙ sym (value-upper m l u (take j v) length-u)
    ∙ ap (value (suc m) l) (sym (ap (λ (x : ℕ). take x (u ++ v)) place ∙ take-append-add u v j))))
    (lt_or_le i n))
