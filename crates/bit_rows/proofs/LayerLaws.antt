-- That the layers give the word by halves, and laws of a loop that makes one layer per pass.
use Rattle.std.specs.Prelude.{◌≡◌, List, [], ◌++◌, take, drop}
use Rattle.std.proofs.Math.Path.{refl, ap, sym, subst}
use Rattle.std.proofs.Common.{ap₂, ◌∙◌, ⊎_elim, append-nil, append_assoc, suc-mul, add-one, add-zero, mul_comm, le-mul_of_pos_right, length-drop}
use Rattle.std.proofs.Common.{length-append, take-append-drop, take_at, drop_at, take-take, drop-drop, length-take-le, pow_pos, pow-add}
use Prim.Native.Nat.{ℕ, zero, suc, ◌+◌, ◌*◌, ◌-◌, ◌^◌, ◌/◌, ◌%◌, ◌≤◌, ◌<◌}
use native.Mathlib.Omega.{arith}
use Rattle.std.proofs.Math.Nat.{two-pow-succ, mul-mod_left, mul-div_cancel, one-mul, mod-eq_of_lt}
use Rattle.std.proofs.Math.Pow.{pow_mono}
use Rattle.std.proofs.Math.ListN.{length}
use Rattle.numbers.specs.Choice.{lt_or_le}
use Rattle.numbers.specs.Halves.{drop-take}
use Rattle.words.specs.Bits.{Bits, xors}
use Rattle.words.specs.Word.{transform}
use Rattle.words.specs.TransformLaws.{length-transform}
use Rattle.bit_rows.specs.Fold.{folded}
use Rattle.bit_rows.specs.Layers.{first_blocks, blocks, layer, layers, Steps}
use Rattle.bit_rows.specs.BlockLaws.{blocks_end, blocks_more, blocks-append, length-blocks, bits_blocks, keeps_folded}

-- ---- 2^m bits are whole blocks of 2^k
pub whole-blocks : (k m n : ℕ) → k ≤ m → n ≡ 2 ^ m → n % 2 ^ k ≡ 0
whole-blocks k m n h e =
    let parts : n ≡ 2 ^ (m - k) * 2 ^ k = e ∙ ap (λ (i : ℕ). 2 ^ i) (omega arith) ∙ pow-add 2 (m - k) k in
    rw parts (mul-mod_left (2 ^ (m - k)) (2 ^ k))

-- ---- the first two of the blocks of 2^k bits
module _ (k : ℕ) (x : List ℕ) (e : 2 ^ k + 2 ^ k ≤ length x) where
  abbrev first_word : List ℕ
  first_word = transform k (take (2 ^ k) x)

  abbrev second_word : List ℕ
  second_word = transform k (take (2 ^ k) (drop (2 ^ k) x))

  length-first_word : length first_word ≡ 2 ^ k
  length-first_word = length-transform k (take (2 ^ k) x) (length-take-le (2 ^ k) x (omega arith))

  length-second_word : length second_word ≡ 2 ^ k
  length-second_word =
      length-transform k (take (2 ^ k) (drop (2 ^ k) x)) (length-take-le (2 ^ k) (drop (2 ^ k) x) (simp length-drop (omega arith)))

  -- their words are in front
  two_words : blocks (transform k) (2 ^ k) x ≡ (first_word ++ second_word) ++ blocks (transform k) (2 ^ k) (drop (2 ^ k + 2 ^ k) x)
  two_words =
      let h = 2 ^ k in
      blocks_more (transform k) h x (pow_pos k) (omega arith)
      ∙ ap (λ (l : List ℕ). first_word ++ l) (blocks_more (transform k) h (drop h x) (pow_pos k) (simp length-drop (omega arith)))
      ∙ ap (λ (l : List ℕ). first_word ++ (second_word ++ blocks (transform k) h l)) (drop-drop h h x)
      ∙ sym (append_assoc first_word second_word (blocks (transform k) h (drop (h + h) x)))

  -- the word of both, from theirs; folded, they are it
  pub joined_words : transform (suc k) (take (2 ^ k + 2 ^ k) x) ≡ xors first_word second_word ++ second_word
  unfolding transform
  joined_words =
      let h = 2 ^ k in
      let q : h + h - h ≡ h = omega arith in
      rw (take-take h (h + h) x (omega arith), drop-take h (h + h) x, q) refl

  folded_words : folded (2 ^ k) (first_word ++ second_word) ≡ transform (suc k) (take (2 ^ k + 2 ^ k) x)
  folded_words =
      let h = 2 ^ k in
      let both : folded h (first_word ++ second_word) ≡ xors first_word second_word ++ second_word =
      rw (take_at first_word second_word h length-first_word, drop_at first_word second_word h length-first_word) refl in
      both ∙ sym joined_words

-- ---- one layer turns the words of 2^k bits into those of twice as many; x has c pairs of them
layer_doubles : (k c : ℕ) (x : List ℕ) → length x ≡ c * 2 ^ suc k
    → layer (2 ^ k) (blocks (transform k) (2 ^ k) x) ≡ blocks (transform (suc k)) (2 ^ suc k) x
layer_doubles k zero x e =
    let p = pow_pos k in
    let p2 = pow_pos (suc k) in
    ap (layer (2 ^ k)) (blocks_end (transform k) (2 ^ k) x (omega arith))
    ∙ blocks_end (folded (2 ^ k)) (2 ^ k + 2 ^ k) x (omega arith)
    ∙ sym (blocks_end (transform (suc k)) (2 ^ suc k) x (omega arith))
layer_doubles k (suc c) x e =
    let h = 2 ^ k in
    let p : 0 < h = pow_pos k in
    let twice : 2 ^ suc k ≡ h + h = two-pow-succ k in
    let long : length x ≡ h + h + c * 2 ^ suc k = omega (arith, e, suc-mul c (2 ^ suc k), twice) in
    let r : h + h ≤ length x = omega arith in
    let y = drop (h + h) x in
    let a = first_word k x r in
    let b = second_word k x r in
    let lab : length (a ++ b) ≡ h + h = length-append a b ∙ omega (arith, length-first_word k x r, length-second_word k x r) in
    let right : blocks (transform (suc k)) (h + h) x ≡ transform (suc k) (take (h + h) x) ++ blocks (transform (suc k)) (h + h) y =
    blocks_more (transform (suc k)) (h + h) x (omega arith) r in
    ap (layer h) (two_words k x r)
    ∙ blocks-append (folded h) (h + h) (a ++ b) (blocks (transform k) h y) (omega arith) lab
    ∙ ap₂ ◌++◌ (folded_words k x r) (layer_doubles k c y (length-drop (h + h) x ∙ omega arith))
    ∙ rw twice (sym right)

-- ---- all layers
-- if the blocks of 2^k bits are words, the remaining layers give the word by halves of all 2^m bits
pub layers_double : (k c m : ℕ) → c + k ≡ m → (x : List ℕ) → length x ≡ 2 ^ m
    → layers c (2 ^ k) (blocks (transform k) (2 ^ k) x) ≡ transform m x
unfolding layers
layers_double k zero m d x e =
    let same : m ≡ k = omega arith in
    ap (blocks (transform k) (2 ^ k)) (sym (append-nil x))
    ∙ blocks-append (transform k) (2 ^ k) x [] (pow_pos k) (e ∙ ap (λ (n : ℕ). 2 ^ n) same)
    ∙ ap (λ (l : List ℕ). transform k x ++ l) (blocks_end (transform k) (2 ^ k) [] (pow_pos k))
    ∙ append-nil (transform k x)
    ∙ ap (λ (n : ℕ). transform n x) (sym same)
layers_double k (suc c) m d x e =
    let more : c + suc k ≡ m = omega arith in
    let pairs : length x ≡ 2 ^ c * 2 ^ suc k = e ∙ ap (λ (n : ℕ). 2 ^ n) (sym more) ∙ pow-add 2 c (suc k) in
    ap (layers c (2 ^ k + 2 ^ k)) (layer_doubles k (2 ^ c) x pairs)
    ∙ ap (λ (n : ℕ). layers c n (blocks (transform (suc k)) (2 ^ suc k) x)) (sym (two-pow-succ k))
    ∙ layers_double (suc k) c m more x e

-- a block of one bit is its own word
ones-alone : (c : ℕ) (x : List ℕ) → first_blocks (transform 0) 1 c x ≡ x
unfolding transform
ones-alone zero x = refl
ones-alone (suc c) x = ap (λ (l : List ℕ). take 1 x ++ l) (ones-alone c (drop 1 x)) ∙ take-append-drop 1 x

-- all m layers give the word by halves, for every m and any list of 2^m bits
pub layers-transform : (m : ℕ) (x : List ℕ) → length x ≡ 2 ^ m → layers m 1 x ≡ transform m x
unfolding blocks
layers-transform m x e = ap (layers m 1) (sym (ones-alone (length x / 1) x)) ∙ layers_double 0 m m (add-zero m) x e

-- ---- a loop that makes one layer per pass, of a word of 2^m bits; the next is of step 2^t
pub record Layering (from m : ℕ) (x word : List ℕ) (t : ℕ) : Type 0 where
  pub long : length word ≡ 2 ^ m
  pub is : layers (m - t) (2 ^ t) word ≡ layers (m - from) (2 ^ from) x
  pub bits : Bits word

-- a power of two by a shift
shifted : (t : ℕ) → 2 ^ t < 2 ^ 64 → (t < 64) × (1 * 2 ^ t % 2 ^ 64 ≡ 2 ^ t)
shifted t h = (
  ⊎_elim (λ k. k) (λ k. absurd (omega (arith, h, pow_mono k))) (lt_or_le t 64),
  rw one-mul (mod-eq_of_lt h),
)

module _ (from m : ℕ) (x word : List ℕ) (t : ℕ) (w : Layering from m x word t) where
  module _ (more : t < m) where
    parts : length word ≡ 2 ^ (m - 1 - t) * (2 ^ t + 2 ^ t)
    parts =
        w.long ∙ ap (λ (n : ℕ). 2 ^ n) (omega arith) ∙ pow-add 2 (m - 1 - t) (suc t)
        ∙ ap (λ (n : ℕ). 2 ^ (m - 1 - t) * n) (two-pow-succ t)

    pub layer_asked : Steps (2 ^ t) word
    layer_asked = record {
      some = pow_pos t;
      within = omega (arith, parts, mul_comm (2 ^ (m - 1 - t)) (2 ^ t + 2 ^ t), le-mul_of_pos_right (2 ^ t + 2 ^ t) (pow_pos (m - 1 - t)));
      bits = w.bits;
    }

    -- the step and the number of blocks are numbers of 64 bits, as the length is
    module _ (fits : length word < 2 ^ 64) where
      pub the-step : (t < 64) × (1 * 2 ^ t % 2 ^ 64 ≡ 2 ^ t)
      the-step = shifted t (omega (arith, layer_asked.within))

      pub the-count : (m - 1 - t < 64) × (1 * 2 ^ (m - 1 - t) % 2 ^ 64 ≡ length word / (2 ^ t + 2 ^ t))
      the-count =
          let p = pow_pos t in
          let c = shifted (m - 1 - t) (omega (arith, w.long, pow_mono {i = m - 1 - t} {j = m} (omega arith))) in
          (c.0, c.1 ∙ sym (rw parts (mul-div_cancel (2 ^ (m - 1 - t)) (omega arith))))

  pub next-layer : t < m → (out : List ℕ) → out ≡ layer (2 ^ t) word → Layering from m x out (t + 1)
  unfolding layers
  next-layer more out e =
      let h = 2 ^ t in
      let q : m - t ≡ suc (m - (t + 1)) = omega arith in
      let keeps = keeps_folded h in
      let twice : 2 ^ (t + 1) ≡ h + h = ap (λ (n : ℕ). 2 ^ n) (add-one t) ∙ two-pow-succ t in
      record {
        long = ap length e ∙ length-blocks (folded h) (h + h) keeps word ∙ w.long;
        is = rw (twice, e) (sym (ap (λ (l : ℕ). layers l h word) q) ∙ w.is);
        bits = subst Bits (sym e) (bits_blocks (folded h) (h + h) keeps word w.bits);
      }

  pub last-layer : m ≤ t → word ≡ layers (m - from) (2 ^ from) x
  unfolding layers
  last-layer e =
      let q : m - t ≡ 0 = omega arith in
      sym (ap (λ (l : ℕ). layers l (2 ^ t) word) q) ∙ w.is
