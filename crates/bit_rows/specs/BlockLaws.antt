-- Laws of a list taken block by block, and of a loop that takes one block per pass.
use Rattle.std.specs.Prelude.{◌≡◌, refl}
use Rattle.std.proofs.Math.Path.{ap, subst}
use Rattle.std.proofs.Common.{sym, ◌∙◌, arith, suc-mul, mul_comm, div-mul-le_self, take-append-drop, take_at, length-take-le}
use mathlib.Core.List.{List, ◌++◌, append_assoc}
use Prim.Native.Nat.{ℕ, zero, suc, ◌+◌, ◌*◌, ◌-◌, ◌^◌, ◌/◌, ◌≤◌, ◌<◌, zero-le}
use Rattle.std.proofs.Math.Numerals.{add-one}
use Rattle.std.proofs.Math.Nat.{div-eq_of_lt, div-eq-sub-div, mod-eq-sub-mul-div, mod-lt, mul-suc, mul-le-mul_left}
use Rattle.std.proofs.Math.ListN.{length, take, drop, length-drop, length-append}
use Rattle.std.proofs.Math.Seq.{drop_at}
use borrow.Rule.Slice.PartMut.{mid_of, put_mid}
use Rattle.numbers.specs.Halves.{length_first_half, length_second_half}
use Rattle.numbers.specs.Lent.{lent_from, back_from}
use Rattle.words.specs.Bits.{Bits, xors}
use Rattle.words.specs.Word.{transform}
use Rattle.words.specs.TransformLaws.{length-xors, length-transform, bits_transform, bits_append, bits_take, bits_drop, bits_xors}
use Rattle.bit_rows.specs.Fold.{folded}
use Rattle.bit_rows.specs.Layers.{on_front, first_blocks, blocks}

module _ (f : List ℕ → List ℕ) (b : ℕ) where
  pub blocks_end : (x : List ℕ) → length x < b → blocks f b x ≡ x
  unfolding blocks
  blocks_end x h = ap (λ (c : ℕ). first_blocks f b c x) (div-eq_of_lt h)

  pub blocks_more : (x : List ℕ) → 0 < b → b ≤ length x → blocks f b x ≡ f (take b x) ++ blocks f b (drop b x)
  unfolding blocks
  blocks_more x p h =
      let one_less : length x / b ≡ suc (length (drop b x) / b) =
      div-eq-sub-div p h ∙ add-one ((length x - b) / b) ∙ ap (λ (n : ℕ). suc (n / b)) (sym (length-drop b x)) in
      ap (λ (c : ℕ). first_blocks f b c x) one_less

  -- the first block apart from the others
  pub blocks-append : (p q : List ℕ) → 0 < b → length p ≡ b → blocks f b (p ++ q) ≡ f p ++ blocks f b q
  blocks-append p q z e =
      blocks_more (p ++ q) z (simp length-append (omega arith))
      ∙ rw (take_at p q b e, drop_at p q b e) refl

  -- f gives as many entries as it takes, and bits of bits
  pub record Keeps : Type 0 where
    pub long : (x : List ℕ) → length x ≡ b → length (f x) ≡ b
    pub bits : (x : List ℕ) → length x ≡ b → Bits x → Bits (f x)

  -- then so do all blocks
  module _ (keeps : Keeps) where
    length-first_blocks : (c : ℕ) (x : List ℕ) → c * b ≤ length x → length (first_blocks f b c x) ≡ length x
    length-first_blocks zero x h = refl
    length-first_blocks (suc c) x h =
        let more : b + c * b ≤ length x = omega (arith, suc-mul c b) in
        let lt = length-take-le b x (omega arith) in
        length-append (f (take b x)) (first_blocks f b c (drop b x))
        ∙ omega (arith, keeps.long (take b x) lt, length-first_blocks c (drop b x) (simp length-drop (omega arith)), length-drop b x)

    bits_first_blocks : (c : ℕ) (x : List ℕ) → c * b ≤ length x → Bits x → Bits (first_blocks f b c x)
    bits_first_blocks zero x h k = k
    bits_first_blocks (suc c) x h k =
        let more : b + c * b ≤ length x = omega (arith, suc-mul c b) in
        let lt = length-take-le b x (omega arith) in
        bits_append (f (take b x)) (first_blocks f b c (drop b x)) (keeps.bits (take b x) lt (bits_take b x k))
        (bits_first_blocks c (drop b x) (simp length-drop (omega arith)) (bits_drop b x k))

    pub length-blocks : (x : List ℕ) → length (blocks f b x) ≡ length x
    unfolding blocks
    length-blocks x = length-first_blocks (length x / b) x (div-mul-le_self (length x) b)

    pub bits_blocks : (x : List ℕ) → Bits x → Bits (blocks f b x)
    unfolding blocks
    bits_blocks x = bits_first_blocks (length x / b) x (div-mul-le_self (length x) b)

-- a fold and a transform do so
pub keeps_folded : (h : ℕ) → Keeps (folded h) (h + h)
keeps_folded h = record {
  long = λ x e.
      let lf = length_first_half h x e in
      let ls = length_second_half h x e in
      length-append (xors (take h x) (drop h x)) (drop h x) ∙ omega (arith, length-xors (take h x) (drop h x) (lf ∙ sym ls), lf, ls);
  bits = λ x e k. bits_append (xors (take h x) (drop h x)) (drop h x) (bits_xors (take h x) (drop h x)) (bits_drop h x k);
}

pub keeps_transform : (k : ℕ) → Keeps (transform k) (2 ^ k)
keeps_transform k = record { long = length-transform k; bits = λ x e. bits_transform k x }

-- ---- a loop that takes one block per pass, from the front; the blocks before s are done
pub record Blockwise (f : List ℕ → List ℕ) (b : ℕ) (x word : List ℕ) (s : ℕ) : Type 0 where
  pub within : s ≤ length word
  pub same : length word ≡ length x
  pub is : take s word ++ blocks f b (drop s word) ≡ blocks f b x
  pub bits : Bits word

module _ (f : List ℕ → List ℕ) (b : ℕ) (x : List ℕ) where
  pub first_pass : Bits x → Blockwise f b x x 0
  first_pass h = record { within = zero-le; same = refl; is = refl; bits = h }

  module _ (word : List ℕ) (s : ℕ) (w : Blockwise f b x word s) where
    pub last_pass : length word - s < b → word ≡ blocks f b x
    last_pass h =
        sym (take-append-drop s word)
        ∙ ap (λ (l : List ℕ). take s word ++ l) (sym (blocks_end f b (drop s word) (simp length-drop h)))
        ∙ w.is

    -- a pass lends the word from s on
    pub part_asked : b ≤ length word - s → (b ≤ length (mid_of s (length word - s) word)) × Bits (mid_of s (length word - s) word)
    part_asked more =
        let e = lent_from s word in
        (rw e (simp length-drop more), subst Bits (sym e) (bits_drop s word w.bits))

    module _ (keeps : Keeps f b) (some : 0 < b) (more : b ≤ length word - s) where
      length_part : length (take b (drop s word)) ≡ b
      length_part = length-take-le b (drop s word) (simp length-drop more)

      done : List ℕ
      done = f (take b (drop s word))

      length-done : length done ≡ b
      unfolding done
      length-done = keeps.long (take b (drop s word)) length_part

      length_before : length (take s word ++ done) ≡ s + b
      length_before = length-append (take s word) done ∙ omega (arith, length-take-le s word w.within, length-done)

      turned : Blockwise f b x (take s word ++ on_front f b (drop s word)) (s + b)
      unfolding done
      turned =
          let rest = drop b (drop s word) in
          let lr : length rest ≡ length word - s - b = simp (length-drop) in
          let cut = append_assoc (take s word) done rest in
          subst (λ (l : List ℕ). Blockwise f b x l (s + b)) cut
          (record {
            within = omega (arith, length-append (take s word ++ done) rest, length_before);
            same = length-append (take s word ++ done) rest ∙ omega (arith, length_before, lr, w.same, w.within, more);
            is =
                rw (take_at (take s word ++ done) rest (s + b) length_before, drop_at (take s word ++ done) rest (s + b) length_before)
                (append_assoc (take s word) done (blocks f b rest)
                ∙ ap (λ (l : List ℕ). take s word ++ l) (sym (blocks_more f b (drop s word) some (simp length-drop more)))
                ∙ w.is);
            bits =
                bits_append (take s word ++ done) rest
                (bits_append (take s word) done (bits_take s word w.bits)
                (keeps.bits (take b (drop s word)) length_part (bits_take b (drop s word) (bits_drop s word w.bits))))
                (bits_drop b (drop s word) (bits_drop s word w.bits));
          })

      pub next_pass : (out : List ℕ) → out ≡ on_front f b (mid_of s (length word - s) word)
          → Blockwise f b x (put_mid s (length word - s) word out) (s + b)
      next_pass out e = rw (back_from s word out, e, lent_from s word) turned

-- ---- n entries are n / b blocks of b, and fewer than b more
block_left : (n b k : ℕ) → k < n / b → b * k + b ≤ n
block_left n b k h = omega (arith, div-mul-le_self n b, mul_comm (n / b) b, mul-suc b k, mul-le-mul_left {m = suc k} {n = n / b} b h)

none_left : (n b k : ℕ) → 0 < b → n / b ≤ k → k ≤ n / b → n - b * k < b
none_left n b k some h g =
    let all : k ≡ n / b = omega arith in
    rw (all, ← mod-eq-sub-mul-div n b) (mod-lt n some)

-- ---- the same by the number k of blocks that are done
module _ (f : List ℕ → List ℕ) (b : ℕ) (x word : List ℕ) (k : ℕ) (w : Blockwise f b x word (b * k)) where
  pub last_block : 0 < b → length x / b ≤ k → k ≤ length x / b → word ≡ blocks f b x
  last_block some h g = last_pass f b x word (b * k) w (omega (arith, none_left (length x) b k some h g, w.same))

  module _ (left : k < length x / b) where
    more : b ≤ length word - b * k
    more = omega (arith, block_left (length x) b k left, w.same)

    pub block_asked : (b ≤ length (mid_of (b * k) (length word - b * k) word)) × Bits (mid_of (b * k) (length word - b * k) word)
    block_asked = part_asked f b x word (b * k) w more

    pub next_block : Keeps f b → 0 < b → (out : List ℕ) → out ≡ on_front f b (mid_of (b * k) (length word - b * k) word)
        → Blockwise f b x (put_mid (b * k) (length word - b * k) word out) (b * (k + 1))
    next_block keeps some out e =
        let end : b * (k + 1) ≡ b * k + b = rw (add-one, mul-suc) refl in
        rw end (next_pass f b x word (b * k) w keeps some more out e)
