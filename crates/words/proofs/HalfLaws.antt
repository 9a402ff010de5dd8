-- The words of RM(r,m) by halves: x is a word of RM(r,m+1) exactly if the sum of its halves is one of RM(r-1,m) and its second half one of RM(r,m).
-- So that r = 0 is not a separate case, a code is named here by d = r + 1; for d = 0 it holds only the zero row.
use Rattle.std.specs.Prelude.{◌≡◌, refl, List, [], ◌++◌, ℕ, zero, suc, ◌+◌, ◌-◌, ◌^◌, ◌≤◌, ◌<◌, length, get_or, replicate}
use Rattle.std.proofs.Common.{ap, sym, ◌∙◌, subst, ⊎_elim, arith, length-append, take_at, drop_at, ext_get_or}
use Rattle.std.proofs.Math.Nat.{two-pow-succ}
use Rattle.std.proofs.Math.ListN.{take, drop, get_or-eq_default}
use Rattle.std.proofs.lemmas.List.{get_or-replicate, length-replicate, replicate-append-replicate}
use Rattle.numbers.specs.Choice.{lt_or_le}
use Rattle.numbers.specs.Halves.{length-first, length-second, get_or-first, get_or-second}
use Rattle.words.specs.Bits.{Bits, xors, ones}
use Rattle.words.specs.Word.{transform}
use Rattle.words.specs.Kinds.{kinds, Word, all_ones}
use Rattle.words.specs.BitLaws.{by_halves_lem, ones_most, ones-first, ones-second}
use Rattle.words.specs.TransformLaws.{length-xors, xors_comm, xors-twice, xors-zeros, bits_xors, bits_drop, bits_append, bits_more, bits_zeros, get_or-xors}
use Rattle.words.specs.TransformLaws.{length-transform, transform-xors, transform-twice, transform-zeros}
use Rattle.words.proofs.KindLaws.{kind_information, kind_frozen, length-kinds, bits_kinds, kinds_at}
use Rattle.words.proofs.InverseLaws.{word-length, word_bits, word_frozen, frozen_word}
use Rattle.words.specs.HalfLaws.{Below}

-- ---- the words of RM(r,m)
pub word_below : (r m : ℕ) (x : List ℕ) → Word m (kinds r m) x → Below (suc r) m x
word_below r m x w =
    let e = length-kinds r m in
    record {
      long = word-length m (kinds r m) x e w;
      are_bits = word_bits m (kinds r m) x e w;
      frozen = λ i h k. word_frozen m (kinds r m) x e w i (kinds_at r m i h ∙ kind_frozen r m i (omega arith));
    }

pub below_word : (r m : ℕ) (x : List ℕ) → Below (suc r) m x → Word m (kinds r m) x
below_word r m x b =
    frozen_word m (kinds r m) x (length-kinds r m) (bits_kinds r m) b.long b.are_bits
    (λ i z.
    ⊎_elim
    (λ h.
    ⊎_elim
    (λ (k : ones m i + r < m). b.frozen i h (omega arith))
    (λ k. absurd (omega (arith, z, kinds_at r m i h, kind_information r m i k)))
    (lt_or_le (ones m i + r) m))
    (λ h. get_or-eq_default (transform m x) 0 {n = i} (rw (length-transform m x b.long) h))
    (lt_or_le i (2 ^ m)))

length_summed : (m : ℕ) (a b : List ℕ) → length a ≡ 2 ^ m → length b ≡ 2 ^ m → length (xors (transform m a) (transform m b)) ≡ 2 ^ m
length_summed m a b e f =
    let la = length-transform m a e in length-xors (transform m a) (transform m b) (la ∙ sym (length-transform m b f)) ∙ la

-- ---- sums, and a larger code
pub below-xors : (d m : ℕ) (x y : List ℕ) → Below d m x → Below d m y → Below d m (xors x y)
below-xors d m x y a b =
    let l : length x ≡ length y = a.long ∙ sym b.long in
    record {
      long = length-xors x y l ∙ a.long;
      are_bits = bits_xors x y;
      frozen = λ i h k.
          let same : length (transform m x) ≡ length (transform m y) = length-transform m x a.long ∙ sym (length-transform m y b.long) in
          rw (transform-xors m x y a.long b.long, get_or-xors (transform m x) (transform m y) i same, a.frozen i h k, b.frozen i h k);
    }

pub below_more : (d e m : ℕ) (x : List ℕ) → d ≤ e → Below d m x → Below e m x
below_more d e m x h b = record { long = b.long; are_bits = b.are_bits; frozen = λ i k l. b.frozen i k (omega arith) }

-- RM(r,m) is contained in RM(s,m) for r ≤ s
pub word_nested : (r s m : ℕ) (x : List ℕ) → r ≤ s → Word m (kinds r m) x → Word m (kinds s m) x
word_nested r s m x h w = below_word s m x (below_more (suc r) (suc s) m x (omega arith) (word_below r m x w))

-- ---- halves
module _ (m : ℕ) (x : List ℕ) (e : length x ≡ 2 ^ suc m) where
  -- the halves of the row that x comes from
  first-row : (i : ℕ) → i < 2 ^ m → get_or (transform (suc m) x) i 0 ≡ get_or (transform m (xors (take (2 ^ m) x) (drop (2 ^ m) x))) i 0
  unfolding transform
  first-row i h =
      let a = take (2 ^ m) x in
      let b = drop (2 ^ m) x in
      let la = length-first m x e in
      let lb = length-second m x e in
      rw (transform-xors m a b la lb)
      (get_or-first (xors (transform m a) (transform m b)) (transform m b) (2 ^ m) (length_summed m a b la lb) i 0 h)

  second-row : (i : ℕ) → get_or (transform (suc m) x) (2 ^ m + i) 0 ≡ get_or (transform m (drop (2 ^ m) x)) i 0
  unfolding transform
  second-row i =
      let a = take (2 ^ m) x in
      let b = drop (2 ^ m) x in
      get_or-second (xors (transform m a) (transform m b)) (transform m b) (2 ^ m) (length_summed m a b (length-first m x e) (length-second m x e)) i 0

-- and the sum of the halves of x is one of the code below, its second half of the same
pub below-first : (d m : ℕ) (x : List ℕ) → Below d (suc m) x → Below (d - 1) m (xors (take (2 ^ m) x) (drop (2 ^ m) x))
below-first d m x b =
    let e = b.long in
    let a = length-first m x e in
    record {
      long = length-xors (take (2 ^ m) x) (drop (2 ^ m) x) (a ∙ sym (length-second m x e)) ∙ a;
      are_bits = bits_xors (take (2 ^ m) x) (drop (2 ^ m) x);
      frozen = λ i h k.
          sym (first-row m x e i h) ∙ b.frozen i (omega (arith, two-pow-succ m)) (omega (arith, ones-first m i h, ones_most m i));
    }

pub below-second : (d m : ℕ) (x : List ℕ) → Below d (suc m) x → Below d m (drop (2 ^ m) x)
below-second d m x b = record {
  long = length-second m x b.long;
  are_bits = bits_drop (2 ^ m) x b.are_bits;
  frozen = λ i h k.
      sym (second-row m x b.long i) ∙ b.frozen (2 ^ m + i) (omega (arith, two-pow-succ m)) (omega (arith, ones-second m i h));
}

below_halves : (d m : ℕ) (x : List ℕ) → length x ≡ 2 ^ suc m → Bits x
    → Below (d - 1) m (xors (take (2 ^ m) x) (drop (2 ^ m) x)) → Below d m (drop (2 ^ m) x) → Below d (suc m) x
below_halves d m x e h s b = record {
  long = e;
  are_bits = h;
  frozen = by_halves_lem (λ (i : ℕ). ones (suc m) i + d ≤ suc m → get_or (transform (suc m) x) i 0 ≡ 0) m
      (λ i l k. first-row m x e i l ∙ s.frozen i l (omega (arith, ones-first m i l, ones_most m i)))
      (λ i l k. second-row m x e i ∙ b.frozen i l (omega (arith, ones-second m i l)));
}

-- (a + b, b) of words a and b
pub below_joined : (d m : ℕ) (a b : List ℕ) → Below (d - 1) m a → Below d m b → Below d (suc m) (xors a b ++ b)
below_joined d m a b g h =
    let e : length a ≡ length b = g.long ∙ sym h.long in
    let l : length (xors a b) ≡ 2 ^ m = length-xors a b e ∙ g.long in
    below_halves d m (xors a b ++ b)
    (length-append (xors a b) b ∙ omega (arith, l, h.long, two-pow-succ m))
    (bits_append (xors a b) b (bits_xors a b) h.are_bits)
    (rw (take_at (xors a b) b (2 ^ m) l, drop_at (xors a b) b (2 ^ m) l, xors-twice a b e g.are_bits) g)
    (rw (drop_at (xors a b) b (2 ^ m) l) h)

-- the code for d = 0
pub below-zero : (m : ℕ) (x : List ℕ) → Below 0 m x → x ≡ replicate (2 ^ m) 0
below-zero m x b =
    let l = length-transform m x b.long in
    let zeros : transform m x ≡ replicate (2 ^ m) 0 =
    ext_get_or 0 (transform m x) (replicate (2 ^ m) 0) (l ∙ sym (length-replicate (2 ^ m) 0))
    (λ i h. let k : i < 2 ^ m = omega arith in b.frozen i k (omega (arith, ones_most m i)) ∙ sym (get_or-replicate (2 ^ m) i 0 0 k)) in
    sym (transform-twice m x b.long b.are_bits) ∙ ap (transform m) zeros ∙ transform-zeros m

-- ---- the zero row, and the row of ones
pub below-zeros : (d m : ℕ) → Below d m (replicate (2 ^ m) 0)
below-zeros d m = record {
  long = length-replicate (2 ^ m) 0;
  are_bits = bits_zeros (2 ^ m);
  frozen = λ i h k. ap (λ (u : List ℕ). get_or u i 0) (transform-zeros m) ∙ get_or-replicate (2 ^ m) i 0 0 h;
}

pub below-ones : (m : ℕ) → Below 1 m (all_ones m)
unfolding ones
below-ones zero = record { long = refl; are_bits = bits_more [] 1 (λ i. omega arith) (omega arith); frozen = λ i k l. absurd (omega arith) }
below-ones (suc m) =
    let full : List ℕ = all_ones m in
    let g = below-ones m in
    let twice : xors (replicate (2 ^ m) 0) full ++ full ≡ all_ones (suc m) =
    ap (λ (l : List ℕ). l ++ full) (xors_comm (replicate (2 ^ m) 0) full ∙ xors-zeros (2 ^ m) full g.long g.are_bits)
    ∙ replicate-append-replicate (2 ^ m) (2 ^ m) 1 ∙ ap (λ (n : ℕ). replicate n 1) (sym (two-pow-succ m)) in
    subst (Below 1 (suc m)) twice (below_joined 1 m (replicate (2 ^ m) 0) full (below-zeros 0 m) g)

pub word_ones : (r m : ℕ) → Word m (kinds r m) (all_ones m)
word_ones r m = below_word r m (all_ones m) (below_more 1 (suc r) m (all_ones m) (omega arith) (below-ones m))
