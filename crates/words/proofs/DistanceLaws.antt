-- A word of RM(r,m) that is not the zero row has at least 2^(m-r) ones, and one has exactly that many; so the least distance of two words is 2^(m-r).
use Rattle.std.specs.Prelude.{◌≡◌, refl, ◌⊎◌, cond, List, [], ◌∷◌, ◌++◌, ℕ, zero, suc, ◌+◌, ◌-◌, ◌*◌, ◌^◌, ◌%◌, ◌≤◌, ◌<◌, length, take, drop, replicate, eqb}
use Rattle.std.proofs.Common.{ap, ap₂, sym, subst, ◌∙◌, inl, inr, ⊎_elim, arith, suc-ne-zero, mul-le-mul_right, le_of_mul-le-mul_right, take-append-drop}
use Rattle.std.proofs.Common.{pow_pos, pow-add}
use Rattle.std.proofs.Math.Nat.{two-pow-succ, sub-zero, suc-sub-suc}
use Rattle.std.proofs.lemmas.List.{replicate-append-replicate}
use Rattle.numbers.specs.Sums.{sum}
use Rattle.numbers.specs.SumsLaws.{sum-append, sum_zeros}
use Rattle.numbers.specs.Halves.{length-first, length-second}
use Rattle.words.specs.Bits.{Bits, xors}
use Rattle.words.specs.Kinds.{kinds, Word}
use Rattle.words.specs.Distance.{weight, distance}
use Rattle.words.specs.TransformLaws.{xors-twice, xors_self, xors-zeros, bits_take, bits_drop, bits_zeros}
use Rattle.words.proofs.KindLaws.{length-kinds}
use Rattle.words.proofs.InverseLaws.{word-length, word_bits, word-xors}
use Rattle.words.specs.HalfLaws.{Below}
use Rattle.words.proofs.HalfLaws.{word_below, below_word, below-first, below-second, below_joined, below-zero, below-zeros, below-ones}
use Rattle.words.specs.DistanceLaws.{lightest}

-- ---- sums of rows
weight-xors : (x y : List ℕ) → weight (xors x y) ≤ weight x + weight y
unfolding sum
weight-xors [] y = omega arith
weight-xors (a ∷ x) [] = omega arith
weight-xors (a ∷ x) (b ∷ y) = omega (arith, weight-xors x y)

-- two rows whose sum is the zero row are equal
alike : (n : ℕ) (x y : List ℕ) → length x ≡ n → length y ≡ n → Bits x → Bits y → xors x y ≡ replicate n 0 → x ≡ y
alike n x y e f h k z =
    sym (xors-twice x y (e ∙ sym f) h)
    ∙ ap (λ (l : List ℕ). xors l y) (z ∙ ap (λ (j : ℕ). replicate j 0) (sym f) ∙ sym (xors_self y))
    ∙ xors-twice y y refl k

differ_one : (a b : ℕ) → a < 2 → b < 2 → cond (eqb a b) 0 1 ≡ (a + b) % 2
differ_one zero zero h k = refl
differ_one zero (suc zero) h k = refl
differ_one (suc zero) zero h k = refl
differ_one (suc zero) (suc zero) h k = refl
differ_one zero (suc (suc b)) h k = absurd (omega arith)
differ_one (suc zero) (suc (suc b)) h k = absurd (omega arith)
differ_one (suc (suc a)) b h k = absurd (omega arith)

-- rows differ where their sum is 1
pub distance-weight : (x y : List ℕ) → Bits x → Bits y → distance x y ≡ weight (xors x y)
unfolding distance sum
distance-weight [] y h k = refl
distance-weight (a ∷ x) [] h k = refl
distance-weight (a ∷ x) (b ∷ y) h k = ap₂ ◌+◌ (differ_one a b (h 0) (k 0)) (distance-weight x y (λ i. h (suc i)) (λ i. k (suc i)))

-- ---- at least that many ones
abbrev Heavy : ℕ → ℕ → List ℕ → Type 0
Heavy r m x = (x ≡ replicate (2 ^ m) 0) ⊎ (2 ^ m ≤ weight x * 2 ^ r)

heavy_one : (r : ℕ) (x : List ℕ) → length x ≡ 1 → Bits x → Heavy r 0 x
unfolding sum
heavy_one r [] e h = absurd (suc-ne-zero 0 (sym e))
heavy_one r (zero ∷ []) e h = inl refl
heavy_one r (suc zero ∷ []) e h = inr (omega (arith, pow_pos r))
heavy_one r (suc (suc a) ∷ []) e h = absurd (omega (arith, h 0))
heavy_one r (a ∷ b ∷ x) e h = absurd (omega arith)

weight_halves : (n : ℕ) (x : List ℕ) → weight x ≡ weight (take n x) + weight (drop n x)
weight_halves n x = ap weight (sym (take-append-drop n x)) ∙ sum-append (take n x) (drop n x)

-- a row of two equal halves
heavy_twice : (r m : ℕ) (x : List ℕ) → take (2 ^ m) x ≡ drop (2 ^ m) x → Heavy r m (drop (2 ^ m) x) → Heavy r (suc m) x
heavy_twice r m x e (inl z) =
    inl
    (sym (take-append-drop (2 ^ m) x) ∙ ap₂ ◌++◌ (e ∙ z) z ∙ replicate-append-replicate (2 ^ m) (2 ^ m) 0
    ∙ ap (λ (n : ℕ). replicate n 0) (sym (two-pow-succ m)))
heavy_twice r m x e (inr h) =
    inr (rw (weight_halves (2 ^ m) x, e) (omega (arith, two-pow-succ m)))

module _ (d m : ℕ) (x : List ℕ) (b : Below d (suc m) x) where
  halves_equal : xors (take (2 ^ m) x) (drop (2 ^ m) x) ≡ replicate (2 ^ m) 0 → take (2 ^ m) x ≡ drop (2 ^ m) x
  halves_equal =
      alike (2 ^ m) (take (2 ^ m) x) (drop (2 ^ m) x) (length-first m x b.long) (length-second m x b.long)
      (bits_take (2 ^ m) x b.are_bits) (bits_drop (2 ^ m) x b.are_bits)

heavy : (r m : ℕ) (x : List ℕ) → Below (suc r) m x → Heavy r m x
heavy r zero x b = heavy_one r x b.long b.are_bits
heavy zero (suc m) x b =
    heavy_twice 0 m x (halves_equal 1 m x b (below-zero m _ (below-first 1 m x b))) (heavy 0 m (drop (2 ^ m) x) (below-second 1 m x b))
heavy (suc r) (suc m) x b =
    let s = xors (take (2 ^ m) x) (drop (2 ^ m) x) in
    let e : suc (suc r) - 1 ≡ suc r = omega arith in
    ⊎_elim
    (λ z.
    heavy_twice (suc r) m x (halves_equal (suc (suc r)) m x b z) (heavy (suc r) m (drop (2 ^ m) x) (below-second (suc (suc r)) m x b)))
    (λ (h : 2 ^ m ≤ weight s * 2 ^ r).
    let lighter : weight s ≤ weight x = omega (arith, weight-xors (take (2 ^ m) x) (drop (2 ^ m) x), weight_halves (2 ^ m) x) in
    inr (rw (two-pow-succ r) (omega (arith, mul-le-mul_right (2 ^ r) lighter, two-pow-succ m))))
    (heavy r m s (subst (λ (d : ℕ). Below d m s) e (below-first (suc (suc r)) m x b)))

pub weight-least : (r m : ℕ) (x : List ℕ) → r ≤ m → Word m (kinds r m) x → (x ≡ replicate (2 ^ m) 0 → ⊥) → 2 ^ (m - r) ≤ weight x
weight-least r m x h w z =
    let e : m ≡ m - r + r = omega arith in
    ⊎_elim
    (λ k. absurd (z k))
    (λ k.
    le_of_mul-le-mul_right {k = 2 ^ r} (subst (λ (n : ℕ). n ≤ weight x * 2 ^ r) (ap (λ (n : ℕ). 2 ^ n) e ∙ pow-add 2 (m - r) r) k) (pow_pos r))
    (heavy r m x (word_below r m x w))

-- two different words
pub distance_least : (r m : ℕ) (x y : List ℕ) → r ≤ m → Word m (kinds r m) x → Word m (kinds r m) y → (x ≡ y → ⊥) → 2 ^ (m - r) ≤ distance x y
distance_least r m x y h v w z =
    let ks = kinds r m in
    let e = length-kinds r m in
    let bx = word_bits m ks x e v in
    let by = word_bits m ks y e w in
    rw (distance-weight x y bx by)
    (weight-least r m (xors x y) h (word-xors m ks x y e v w)
    (λ k. z (alike (2 ^ m) x y (word-length m ks x e v) (word-length m ks y e w) bx by k)))

sum_ones : (n : ℕ) → sum (replicate n 1) ≡ n
unfolding sum
sum_ones zero = refl
sum_ones (suc n) = omega (arith, sum_ones n)

weight-lightest : (r m : ℕ) → r ≤ m → weight (lightest r m) ≡ 2 ^ (m - r)
unfolding lightest
weight-lightest zero m h = rw (sub-zero m) (sum_ones (2 ^ m))
weight-lightest (suc r) zero h = absurd (omega arith)
weight-lightest (suc r) (suc m) h =
    rw (suc-sub-suc m r)
    (sum-append (lightest r m) (replicate (2 ^ m) 0) ∙ omega (arith, weight-lightest r m (omega arith), sum_zeros (2 ^ m)))

below-lightest : (r m : ℕ) → r ≤ m → Below (suc r) m (lightest r m)
unfolding lightest
below-lightest zero m h = below-ones m
below-lightest (suc r) zero h = absurd (omega arith)
below-lightest (suc r) (suc m) h =
    let a = lightest r m in
    let zeros : List ℕ = replicate (2 ^ m) 0 in
    let g : Below (suc r) m a = below-lightest r m (omega arith) in
    let e : suc r ≡ suc (suc r) - 1 = omega arith in
    subst (λ (l : List ℕ). Below (suc (suc r)) (suc m) (l ++ zeros)) (xors-zeros (2 ^ m) a g.long g.are_bits)
    (below_joined (suc (suc r)) m a zeros (subst (λ (d : ℕ). Below d m a) e g) (below-zeros (suc (suc r)) m))

pub lightest-word : (r m : ℕ) → r ≤ m → Word m (kinds r m) (lightest r m)
lightest-word r m h = below_word r m (lightest r m) (below-lightest r m h)

-- it and the zero row, which is a word, are exactly that far apart
pub distance_attained : (r m : ℕ) → r ≤ m → distance (lightest r m) (replicate (2 ^ m) 0) ≡ 2 ^ (m - r)
distance_attained r m h =
    let b = below-lightest r m h in
    distance-weight (lightest r m) (replicate (2 ^ m) 0) b.are_bits (bits_zeros (2 ^ m))
    ∙ ap weight (xors-zeros (2 ^ m) (lightest r m) b.long b.are_bits) ∙ weight-lightest r m h
