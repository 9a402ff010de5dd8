-- Duality: RM(m-r-1,m) is the dual code of RM(r,m). A row of n bits is a word of the one exactly if it has an even number of common ones with every word of
-- the other; the dimensions of the two add up to 2^m.
use Rattle.std.specs.Prelude.{◌≡◌, refl, ◌↔◌, List, [], ◌∷◌, ◌++◌, ℕ, zero, suc, ◌+◌, ◌-◌, ◌*◌, ◌^◌, ◌%◌, ◌≤◌, ◌<◌, length, get_or, take, drop, replicate}
use Rattle.std.proofs.Common.{ap, ap₂, sym, subst, ◌∙◌, arith, suc-ne-zero, mul_comm, take-append-drop}
use Rattle.std.proofs.Math.Nat.{suc_inj, two-pow-succ}
use Rattle.numbers.specs.Halves.{length-first, length-second}
use Rattle.words.specs.Bits.{Bits, xors, ones}
use Rattle.words.specs.Word.{transform}
use Rattle.words.specs.Kinds.{kinds, dimension, Word}
use Rattle.words.specs.TransformLaws.{length-xors, bits_xors, xors_comm, xors_self, xors-zeros, xors-twice, bits_more, bits_take, bits_drop}
use Rattle.words.proofs.KindLaws.{dimension-zero, dimension-one, dimension-suc}
use Rattle.words.specs.HalfLaws.{Below}
use Rattle.words.proofs.HalfLaws.{word_below, below_word, below-xors, below_more, below-first, below-second, below_joined}
use Rattle.words.proofs.HalfLaws.{below-zero, below-zeros}
use Rattle.words.specs.ParityLaws.{Even}
use Rattle.words.specs.DualLaws.{common_ones}

common_swapped : (x y : List ℕ) → common_ones x y ≡ common_ones y x
unfolding common_ones
common_swapped [] [] = refl
common_swapped [] (b ∷ y) = refl
common_swapped (a ∷ x) [] = refl
common_swapped (a ∷ x) (b ∷ y) = ap₂ ◌+◌ (mul_comm a b) (common_swapped x y)

common-zeros : (n : ℕ) (y : List ℕ) → common_ones (replicate n 0) y ≡ 0
unfolding common_ones
common-zeros zero y = refl
common-zeros (suc n) [] = refl
common-zeros (suc n) (b ∷ y) = omega (arith, common-zeros n y)

common-append : (a b c d : List ℕ) → length a ≡ length c → common_ones (a ++ b) (c ++ d) ≡ common_ones a c + common_ones b d
unfolding common_ones
common-append [] b [] d e = omega arith
common-append [] b (y ∷ c) d e = absurd (suc-ne-zero (length c) (sym e))
common-append (x ∷ a) b [] d e = absurd (suc-ne-zero (length a) e)
common-append (x ∷ a) b (y ∷ c) d e = omega (arith, common-append a b c d (suc_inj e))

-- modulo 2, a·c + b·d = (a + b)·c + b·(c + d)
common-crossed-one : (p q s t : ℕ) → p < 2 → q < 2 → (p * s + q * t) % 2 ≡ ((p + q) % 2 * s + q * ((s + t) % 2)) % 2
common-crossed-one zero zero s t h k = omega arith
common-crossed-one zero (suc zero) s t h k = omega arith
common-crossed-one (suc zero) zero s t h k = omega arith
common-crossed-one (suc zero) (suc zero) s t h k = omega arith
common-crossed-one zero (suc (suc q)) s t h k = absurd (omega arith)
common-crossed-one (suc zero) (suc (suc q)) s t h k = absurd (omega arith)
common-crossed-one (suc (suc p)) q s t h k = absurd (omega arith)

common-crossed : (a b c d : List ℕ) → length a ≡ length b → length a ≡ length c → length a ≡ length d → Bits a → Bits b
    → (common_ones a c + common_ones b d) % 2 ≡ (common_ones (xors a b) c + common_ones b (xors c d)) % 2
unfolding common_ones
common-crossed [] [] c d e f g h k = refl
common-crossed [] (q ∷ b) c d e f g h k = absurd (suc-ne-zero (length b) (sym e))
common-crossed (p ∷ a) [] c d e f g h k = absurd (suc-ne-zero (length a) e)
common-crossed (p ∷ a) (q ∷ b) [] d e f g h k = absurd (suc-ne-zero (length a) f)
common-crossed (p ∷ a) (q ∷ b) (s ∷ c) [] e f g h k = absurd (suc-ne-zero (length a) g)
common-crossed (p ∷ a) (q ∷ b) (s ∷ c) (t ∷ d) e f g h k =
    omega (
      arith,
      common-crossed-one p q s t (h 0) (k 0),
      common-crossed a b c d (suc_inj e) (suc_inj f) (suc_inj g) (λ i. h (suc i)) (λ i. k (suc i)),
    )

-- the zero row has no common ones with any row
none_first : (m : ℕ) (x y : List ℕ) → Below 0 m x → Even (common_ones x y)
none_first m x y v = omega (arith, ap (λ (z : List ℕ). common_ones z y) (below-zero m x v), common-zeros (2 ^ m) y)

-- in terms of d = r + 1 and e = s + 1, as in HalfLaws
below_dual : (m d e : ℕ) (x y : List ℕ) → d + e ≤ suc m → Below d m x → Below e m y → Even (common_ones x y)
below_dual zero zero e x y h v w = none_first 0 x y v
below_dual zero (suc d) zero x y h v w = omega (arith, none_first 0 y x w, common_swapped x y)
below_dual zero (suc d) (suc e) x y h v w = absurd (omega arith)
below_dual (suc m) zero e x y h v w = none_first (suc m) x y v
below_dual (suc m) (suc d) zero x y h v w = omega (arith, none_first (suc m) y x w, common_swapped x y)
below_dual (suc m) (suc d) (suc e) x y h v w =
    let n = 2 ^ m in
    let x1 = take n x in
    let x2 = drop n x in
    let y1 = take n y in
    let y2 = drop n y in
    let lx1 = length-first m x v.long in
    let lx2 = length-second m x v.long in
    let ly1 = length-first m y w.long in
    let ly2 = length-second m y w.long in
    let sx = below-first (suc d) m x v in
    let sy = below-first (suc e) m y w in
    let w2 = below-second (suc e) m y w in
    let w1 : Below (suc e) m y1 =
    subst (Below (suc e) m) (xors-twice y1 y2 (ly1 ∙ sym ly2) (bits_take n y w.are_bits))
    (below-xors (suc e) m (xors y1 y2) y2 (below_more (suc e - 1) (suc e) m (xors y1 y2) (omega arith) sy) w2) in
    let cut : common_ones x y ≡ common_ones x1 y1 + common_ones x2 y2 =
    ap₂ common_ones (sym (take-append-drop n x)) (sym (take-append-drop n y)) ∙ common-append x1 x2 y1 y2 (lx1 ∙ sym ly1) in
    omega (
      arith,
      cut,
      common-crossed x1 x2 y1 y2 (lx1 ∙ sym lx2) (lx1 ∙ sym ly1) (lx1 ∙ sym ly2) (bits_take n x v.are_bits) (bits_drop n x v.are_bits),
      below_dual m (suc d - 1) (suc e) (xors x1 x2) y1 (omega arith) sx w1,
      below_dual m (suc d) (suc e - 1) x2 (xors y1 y2) (omega arith) (below-second (suc d) m x v) sy,
    )

-- r + s < m: for RM(m-r-1,m), and so for all codes inside it
pub dual_even : (r s m : ℕ) (x y : List ℕ) → r + s < m → Word m (kinds r m) x → Word m (kinds s m) y → Even (common_ones x y)
dual_even r s m x y h v w = below_dual m (suc r) (suc s) x y (omega arith) (word_below r m x v) (word_below s m y w)

-- ---- and no other row has that: orthogonal to (a, 0) and to (b, b), x = (x1, x2) has x1 and x1 + x2 orthogonal to all such a and b
common_added : (x y c : List ℕ) → length x ≡ length y → length x ≡ length c → Bits x → Bits y
    → (common_ones x c + common_ones y c) % 2 ≡ common_ones (xors x y) c % 2
common_added x y c e f h k =
    let none : common_ones y (xors c c) ≡ 0 = ap (common_ones y) (xors_self c) ∙ common_swapped y (replicate (length c) 0) ∙ common-zeros (length c) y in
    omega (arith, common-crossed x y c c e f f h k, none)

even_below : (m d e : ℕ) (x : List ℕ) → suc m ≤ d + e → length x ≡ 2 ^ m → Bits x → ((y : List ℕ) → Below e m y → Even (common_ones x y)) → Below d m x
unfolding ones transform common_ones
even_below zero d e [] h l b f = absurd (suc-ne-zero 0 (sym l))
even_below zero d e (a ∷ p ∷ x) h l b f = absurd (omega arith)
even_below zero d e (a ∷ []) h l b f =
    record {
      long = l;
      are_bits = b;
      frozen = λ i k few.
          let one : Below e 0 (1 ∷ []) =
          record { long = refl; are_bits = bits_more [] 1 (λ j. omega arith) (omega arith); frozen = λ j n z. absurd (omega arith) } in
          let first : i ≡ 0 = omega arith in
          ap (λ (j : ℕ). get_or (a ∷ []) j 0) first ∙ omega (arith, f (1 ∷ []) one, b 0);
    }
even_below (suc m) d e x h l b f =
    let n = 2 ^ m in
    let x1 = take n x in
    let x2 = drop n x in
    let l1 = length-first m x l in
    let l2 = length-second m x l in
    let b1 = bits_take n x b in
    let b2 = bits_drop n x b in
    let zeros : List ℕ = replicate n 0 in
    let cut : (c y : List ℕ) → length c ≡ n → common_ones x (c ++ y) ≡ common_ones x1 c + common_ones x2 y = λ c y k.
    ap (λ (z : List ℕ). common_ones z (c ++ y)) (sym (take-append-drop n x)) ∙ common-append x1 x2 c y (l1 ∙ sym k) in
    let first : Below d m x1 =
    even_below m d (e - 1) x1 (omega arith) l1 b1
    (λ a w.
    let whole : Below e (suc m) (a ++ zeros) =
    subst (λ (z : List ℕ). Below e (suc m) (z ++ zeros)) (xors-zeros n a w.long w.are_bits) (below_joined e m a zeros w (below-zeros e m)) in
    omega (arith, f (a ++ zeros) whole, cut a zeros w.long, common_swapped x2 zeros, common-zeros n x2)) in
    let sum : Below (d - 1) m (xors x1 x2) =
    even_below m (d - 1) e (xors x1 x2) (omega arith) (length-xors x1 x2 (l1 ∙ sym l2) ∙ l1) (bits_xors x1 x2)
    (λ c w.
    let whole : Below e (suc m) (c ++ c) =
    subst (λ (z : List ℕ). Below e (suc m) (z ++ c)) (xors_comm zeros c ∙ xors-zeros n c w.long w.are_bits)
    (below_joined e m zeros c (below-zeros (e - 1) m) w) in
    omega (arith, f (c ++ c) whole, cut c c w.long, common_added x1 x2 c (l1 ∙ sym l2) (l1 ∙ sym w.long) b1 b2)) in
    let second : Below d m x2 =
    subst (Below d m) (ap (λ (z : List ℕ). xors z x1) (xors_comm x1 x2) ∙ xors-twice x2 x1 (l2 ∙ sym l1) b2)
    (below-xors d m (xors x1 x2) x1 (below_more (d - 1) d m (xors x1 x2) (omega arith) sum) first) in
    subst (Below d (suc m)) (ap (λ (z : List ℕ). z ++ x2) (xors-twice x1 x2 (l1 ∙ sym l2) b1) ∙ take-append-drop n x)
    (below_joined d m (xors x1 x2) x2 sum second)

pub dual : (r s m : ℕ) (x : List ℕ) → suc (r + s) ≡ m → length x ≡ 2 ^ m → Bits x
    → Word m (kinds r m) x ↔ ((y : List ℕ) → Word m (kinds s m) y → Even (common_ones x y))
dual r s m x h l b = (
  λ v y w. dual_even r s m x y (omega arith) v w,
  λ f. below_word r m x (even_below m (suc r) (suc s) x (omega arith) l b (λ y w. f y (below_word s m y w))),
)

-- ---- dimensions
dimension-full : (r m : ℕ) → m ≤ r → dimension r m ≡ 2 ^ m
dimension-full r zero h = dimension-one r
dimension-full zero (suc m) h = absurd (omega arith)
dimension-full (suc r) (suc m) h =
    omega (arith, dimension-suc r m, dimension-full r m (omega arith), dimension-full (suc r) m (omega arith), two-pow-succ m)

pub dual_dimension : (r s m : ℕ) → suc (r + s) ≡ m → dimension r m + dimension s m ≡ 2 ^ m
dual_dimension r s zero e = absurd (omega arith)
dual_dimension zero zero (suc m) e =
    let none : m ≡ 0 = omega arith in
    omega (arith, dimension-zero (suc m), two-pow-succ m, ap (λ (n : ℕ). 2 ^ n) none)
dual_dimension zero (suc s) (suc m) e =
    omega (
      arith,
      dimension-zero m,
      dimension-zero (suc m),
      dimension-suc s m,
      dual_dimension 0 s m (omega arith),
      dimension-full (suc s) m (omega arith),
      two-pow-succ m,
    )
dual_dimension (suc r) zero (suc m) e =
    omega (
      arith,
      dimension-zero m,
      dimension-zero (suc m),
      dimension-suc r m,
      dual_dimension r 0 m (omega arith),
      dimension-full (suc r) m (omega arith),
      two-pow-succ m,
    )
dual_dimension (suc r) (suc s) (suc m) e =
    omega (
      arith,
      dimension-suc r m,
      dimension-suc s m,
      dual_dimension r (suc s) m (omega arith),
      dual_dimension (suc r) s m (omega arith),
      two-pow-succ m,
    )
