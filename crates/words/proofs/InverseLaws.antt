-- Laws of the inverse, for every row of kinds: it gives back exactly the information bits of a word, and refuses exactly what no information bits give.
-- Words are the rows whose transform is 0 at every frozen index; sums of words are words.
use Rattle.std.proofs.Math.Path.{◌≡◌, subst}
use Rattle.std.specs.Prelude.{refl, ◌⊎◌, ℕ, zero, suc, ◌^◌, ◌≤◌, ◌<◌, length, replicate}
use Rattle.std.proofs.Common.{get_or, ap, ap₂, sym, ◌∙◌, inl, inr, suc-le-suc, arith, suc-ne-zero, le_of_suc-le-suc, not-suc-le-zero, zero-lt-suc, lt-ltb}
use Rattle.std.proofs.Common.{le-ltb}
use Rattle.std.proofs.Math.Logic.{⊎_elim}
use mathlib.Core.List.{List, [], ◌∷◌}
use Rattle.std.proofs.Math.Nat.{suc_inj, le_antisymm}
use Rattle.std.proofs.lemmas.List.{length-replicate}
use Rattle.numbers.specs.Choice.{lt_or_le}
use Rattle.numbers.specs.Sums.{sum}
use Rattle.words.specs.Bits.{Bits, xors}
use Rattle.words.specs.Word.{transform}
use Rattle.words.specs.Kinds.{fill, pick, encoded, Frozen, Word}
use Rattle.words.specs.Inverse.{LowestFrozenOne, taken, frozen_one, first_frozen_one, taken_back}
use Rattle.words.specs.TransformLaws.{length-xors, bits_xors, bits_zeros}
use Rattle.words.specs.TransformLaws.{length-transform, bits_transform, transform-xors, transform-twice, transform-zeros}
use Rattle.words.proofs.FillLaws.{length-fill, bits_fill, frozen_fill, length-pick, bits_pick, pick-fill, fill-pick, fill-xors, fill-zeros}

-- ---- the lowest frozen index where a row is 1: there is only one
lowest_only : (ks u : List ℕ) (i j : ℕ) → LowestFrozenOne ks u i → LowestFrozenOne ks u j → i ≤ j
lowest_only ks u i j a b =
    ⊎_elim (λ (h : j < i). absurd (omega (arith, b.one, a.lowest j h b.frozen))) (λ h. h) (lt_or_le j i)

-- what `first_frozen_one` finds: nothing, and the row is 0 at every frozen index, or the lowest
abbrev Found : List ℕ → List ℕ → ℕ → Type 0
Found ks u n = ((n ≡ length ks) × Frozen ks u) ⊎ LowestFrozenOne ks u n

found-more : (k a n : ℕ) (ks u : List ℕ) → (k ≡ 0 → a ≡ 0) → Found ks u n → Found (k ∷ ks) (a ∷ u) (suc n)
found-more k a n ks u z (inl f) = inl (ap suc f.0, λ i. elim i as (λ j. get_or (k ∷ ks) j 0 ≡ 0 → get_or (a ∷ u) j 0 ≡ 0) [ zero ↦ z | suc i ↦ f.1 i ])
found-more k a n ks u z (inr l) =
    inr
    record {
      below = suc-le-suc l.below;
      frozen = l.frozen;
      one = l.one;
      lowest = λ j. elim j as (λ i. i < suc n → get_or (k ∷ ks) i 0 ≡ 0 → get_or (a ∷ u) i 0 ≡ 0)
          [ zero ↦ λ h. z | suc j ↦ λ h. l.lowest j (le_of_suc-le-suc h) ];
    }

found : (ks u : List ℕ) → length u ≡ length ks → Bits u → Found ks u (first_frozen_one ks u)
unfolding first_frozen_one
found [] [] e h = inl (refl, λ i z. refl)
found [] (a ∷ u) e h = absurd (suc-ne-zero (length u) e)
found (k ∷ ks) [] e h = absurd (suc-ne-zero (length ks) (sym e))
found (zero ∷ ks) (zero ∷ u) e h = found-more 0 0 (first_frozen_one ks u) ks u (λ z. refl) (found ks u (suc_inj e) (λ i. h (suc i)))
found (zero ∷ ks) (suc a ∷ u) e h =
    inr (record { below = zero-lt-suc (length ks); frozen = refl; one = omega (arith, h 0); lowest = λ j l. absurd (not-suc-le-zero l) })
found (suc k ∷ ks) (a ∷ u) e h =
    found-more (suc k) a (first_frozen_one ks u) ks u (λ z. absurd (suc-ne-zero k z)) (found ks u (suc_inj e) (λ i. h (suc i)))

-- ---- words by their transform
module _ (m : ℕ) (ks x : List ℕ) (e : length ks ≡ 2 ^ m) where
  pub word-length : Word m ks x → length x ≡ 2 ^ m
  word-length w = subst (λ (y : List ℕ). length y ≡ 2 ^ m) w.gives (length-transform m (fill ks w.bits) (length-fill ks w.bits ∙ e))

  pub word_bits : Word m ks x → Bits x
  word_bits w = subst Bits w.gives (bits_transform m (fill ks w.bits) (bits_fill ks w.bits w.are_bits))

  -- the row that a word comes from
  pub word_row : (w : Word m ks x) → transform m x ≡ fill ks w.bits
  word_row w =
      ap (transform m) (sym w.gives)
      ∙ transform-twice m (fill ks w.bits) (length-fill ks w.bits ∙ e) (bits_fill ks w.bits w.are_bits)

  pub word_frozen : Word m ks x → Frozen ks (transform m x)
  word_frozen w = subst (Frozen ks) (sym (word_row w)) (frozen_fill ks w.bits)

  pub frozen_word : Bits ks → length x ≡ 2 ^ m → Bits x → Frozen ks (transform m x) → Word m ks x
  frozen_word h f b z =
      let u = transform m x in
      let l : length u ≡ length ks = length-transform m x f ∙ sym e in
      record {
        bits = pick ks u;
        long = length-pick ks u h l;
        are_bits = bits_pick ks u (bits_transform m x b);
        gives = ap (transform m) (fill-pick ks u z l) ∙ transform-twice m x f b;
      }

-- ---- the inverse
module _ (m : ℕ) (ks x : List ℕ) (e : length ks ≡ 2 ^ m) (h : Bits ks) (f : length x ≡ 2 ^ m) (b : Bits x) where
  at_row : Found ks (transform m x) (first_frozen_one ks (transform m x))
  at_row = found ks (transform m x) (length-transform m x f ∙ sym e) (bits_transform m x b)

  pub taken_frozen : Frozen ks (transform m x) → taken_back m ks x ≡ taken (pick ks (transform m x))
  unfolding taken_back
  taken_frozen z =
      let u = transform m x in
      let n = first_frozen_one ks u in
      ⊎_elim
      (λ r. rw (le-ltb n (length ks) (omega (arith, r.0))))
      (λ l. absurd (omega (arith, l.one, z n l.frozen)))
      at_row

  -- refused with i exactly if i is the lowest frozen index at which the row is 1
  pub refused_lowest : (i : ℕ) → LowestFrozenOne ks (transform m x) i → taken_back m ks x ≡ frozen_one i
  unfolding taken_back
  refused_lowest i l =
      let u = transform m x in
      let n = first_frozen_one ks u in
      ⊎_elim
      (λ r. absurd (omega (arith, l.one, r.1 i l.frozen)))
      (λ k.
      let same : n ≡ i = le_antisymm (lowest_only ks u n i k l) (lowest_only ks u i n l k) in
      rw (lt-ltb n (length ks) k.below) (ap frozen_one same))
      at_row

  pub lowest_refused : (i : ℕ) → taken_back m ks x ≡ frozen_one i → LowestFrozenOne ks (transform m x) i
  lowest_refused i t =
      let u = transform m x in
      let n = first_frozen_one ks u in
      ⊎_elim
      (λ r. let z : ◌≡◌ {A = ℕ} 0 1 = cc (taken_frozen r.1) in absurd (omega arith))
      (λ k. let same : n ≡ i = cc (refused_lowest n k) in subst (LowestFrozenOne ks u) same k)
      at_row

  -- refused exactly if no information bits give the row
  pub refused_no_word : (i : ℕ) → taken_back m ks x ≡ frozen_one i → Word m ks x → ⊥
  refused_no_word i t w =
      let l = lowest_refused i t in omega (arith, l.one, word_frozen m ks x e w i l.frozen)

  pub no_word_refused : (Word m ks x → ⊥) → (i : ℕ) × (taken_back m ks x ≡ frozen_one i)
  no_word_refused z =
      let n = first_frozen_one ks (transform m x) in
      ⊎_elim (λ r. absurd (z (frozen_word m ks x e h f b r.1))) (λ k. (n, refused_lowest n k)) at_row

  -- bits that are taken give the row
  pub taken_gives : (c : List ℕ) → taken_back m ks x ≡ taken c → (length c ≡ sum ks) × Bits c × (encoded m ks c ≡ x)
  unfolding frozen_word
  taken_gives c t =
      ⊎_elim
      (λ r.
      let w = frozen_word m ks x e h f b r.1 in
      let same : pick ks (transform m x) ≡ c = cc (taken_frozen r.1) in
      subst (λ (d : List ℕ). (length d ≡ sum ks) × Bits d × (encoded m ks d ≡ x)) same (w.long, w.are_bits, w.gives))
      (λ k. let z : ◌≡◌ {A = ℕ} 0 1 = cc (refused_lowest (first_frozen_one ks (transform m x)) k) in absurd (omega arith))
      at_row

-- the bits of a word are taken
pub word_taken : (m : ℕ) (ks x : List ℕ) → length ks ≡ 2 ^ m → Bits ks → (w : Word m ks x) → taken_back m ks x ≡ taken w.bits
word_taken m ks x e h w =
    taken_frozen m ks x e h (word-length m ks x e w) (word_bits m ks x e w) (word_frozen m ks x e w)
    ∙ ap taken (ap (pick ks) (word_row m ks x e w) ∙ pick-fill ks w.bits h w.long)

-- there and back
pub taken_encoded : (m : ℕ) (ks b : List ℕ) → length ks ≡ 2 ^ m → Bits ks → length b ≡ sum ks → Bits b → taken_back m ks (encoded m ks b) ≡ taken b
taken_encoded m ks b e h l c = word_taken m ks (encoded m ks b) e h (record { bits = b; long = l; are_bits = c; gives = refl })

-- ---- words form a linear code
pub encoded-xors : (m : ℕ) (ks a b : List ℕ) → length ks ≡ 2 ^ m → length a ≡ length b → encoded m ks (xors a b) ≡ xors (encoded m ks a) (encoded m ks b)
encoded-xors m ks a b e l = ap (transform m) (fill-xors ks a b l) ∙ transform-xors m (fill ks a) (fill ks b) (length-fill ks a ∙ e) (length-fill ks b ∙ e)

pub word-xors : (m : ℕ) (ks x y : List ℕ) → length ks ≡ 2 ^ m → Word m ks x → Word m ks y → Word m ks (xors x y)
word-xors m ks x y e v w =
    let a = v.bits in
    let b = w.bits in
    let l : length a ≡ length b = v.long ∙ sym w.long in
    record {
      bits = xors a b;
      long = length-xors a b l ∙ v.long;
      are_bits = bits_xors a b;
      gives = encoded-xors m ks a b e l ∙ ap₂ xors v.gives w.gives;
    }

pub word-zeros : (m : ℕ) (ks : List ℕ) → length ks ≡ 2 ^ m → Word m ks (replicate (2 ^ m) 0)
word-zeros m ks e = record {
  bits = replicate (sum ks) 0;
  long = length-replicate (sum ks) 0;
  are_bits = bits_zeros (sum ks);
  gives = ap (transform m) (fill-zeros ks (sum ks) ∙ ap (λ (n : ℕ). replicate n 0) e) ∙ transform-zeros m;
}
