-- Laws of sums of bits and of the transform by halves, for every m: lengths, bits, linear, its own inverse.
use Rattle.std.specs.Prelude.{◌≡◌, refl, List, [], ◌∷◌, ◌++◌, ℕ, zero, suc, ◌+◌, ◌^◌, ◌%◌, ◌<◌, length, get_or, take, drop, replicate}
use Rattle.std.proofs.Common.{ap, ap₂, sym, ◌∙◌, arith, suc-ne-zero, add_comm, length-append, take-append-drop, take_at, drop_at, get_or-drop}
use Rattle.std.proofs.Math.Nat.{suc_inj, add-mod, two-pow-succ}
use Rattle.std.proofs.lemmas.List.{length-replicate}
use Rattle.numbers.specs.Halves.{length-first, length-second}
use Rattle.words.specs.Bits.{Bits, xors}
use Rattle.words.specs.Word.{transform}

-- ---- sums of bits
pub length-xors : (x y : List ℕ) → length x ≡ length y → length (xors x y) ≡ length x
length-xors [] y e = refl
length-xors (a ∷ x) [] e = absurd (suc-ne-zero (length x) e)
length-xors (a ∷ x) (b ∷ y) e = ap suc (length-xors x y (suc_inj e))

pub xors-append : (a b c d : List ℕ) → length a ≡ length c → xors (a ++ b) (c ++ d) ≡ xors a c ++ xors b d
xors-append [] b [] d e = refl
xors-append [] b (y ∷ c) d e = absurd (suc-ne-zero (length c) (sym e))
xors-append (x ∷ a) b [] d e = absurd (suc-ne-zero (length a) e)
xors-append (x ∷ a) b (y ∷ c) d e = ap (λ (l : List ℕ). (x + y) % 2 ∷ l) (xors-append a b c d (suc_inj e))

swap_one : (a b c d : ℕ) → ((a + b) % 2 + (c + d) % 2) % 2 ≡ ((a + c) % 2 + (b + d) % 2) % 2
swap_one a b c d =
    let e : a + b + (c + d) ≡ a + c + (b + d) = omega arith in
    sym (add-mod (a + b) (c + d) 2) ∙ ap (λ (n : ℕ). n % 2) e ∙ add-mod (a + c) (b + d) 2

-- the middle two are exchanged
pub xors_swap : (a b c d : List ℕ) → length a ≡ length b → length a ≡ length c → length a ≡ length d → xors (xors a b) (xors c d) ≡ xors (xors a c) (xors b d)
xors_swap [] b c d e f g = refl
xors_swap (x ∷ a) [] c d e f g = absurd (suc-ne-zero (length a) e)
xors_swap (x ∷ a) (y ∷ b) [] d e f g = refl
xors_swap (x ∷ a) (y ∷ b) (z ∷ c) [] e f g = refl
xors_swap (x ∷ a) (y ∷ b) (z ∷ c) (w ∷ d) e f g = ap₂ ◌∷◌ (swap_one x y z w) (xors_swap a b c d (suc_inj e) (suc_inj f) (suc_inj g))

-- adding twice changes nothing
twice-one : (a b : ℕ) → a < 2 → ((a + b) % 2 + b) % 2 ≡ a
twice-one a b h = omega arith

pub xors-twice : (x y : List ℕ) → length x ≡ length y → Bits x → xors (xors x y) y ≡ x
xors-twice [] y e h = refl
xors-twice (a ∷ x) [] e h = absurd (suc-ne-zero (length x) e)
xors-twice (a ∷ x) (b ∷ y) e h = ap₂ ◌∷◌ (twice-one a b (h 0)) (xors-twice x y (suc_inj e) (λ i. h (suc i)))

pub xors_comm : (x y : List ℕ) → xors x y ≡ xors y x
xors_comm [] [] = refl
xors_comm [] (b ∷ y) = refl
xors_comm (a ∷ x) [] = refl
xors_comm (a ∷ x) (b ∷ y) = ap₂ ◌∷◌ (ap (λ (n : ℕ). n % 2) (add_comm a b)) (xors_comm x y)

pub xors_undo : (x y : List ℕ) → length x ≡ length y → Bits y → xors x (xors x y) ≡ y
xors_undo x y e h = xors_comm x (xors x y) ∙ ap (λ (l : List ℕ). xors l x) (xors_comm x y) ∙ xors-twice y x (sym e) h

pub take-xors : (n : ℕ) (x y : List ℕ) → take n (xors x y) ≡ xors (take n x) (take n y)
take-xors zero x y = refl
take-xors (suc n) [] y = refl
take-xors (suc n) (a ∷ x) [] = refl
take-xors (suc n) (a ∷ x) (b ∷ y) = ap (λ (l : List ℕ). (a + b) % 2 ∷ l) (take-xors n x y)

pub drop-xors : (n : ℕ) (x y : List ℕ) → length x ≡ length y → drop n (xors x y) ≡ xors (drop n x) (drop n y)
drop-xors zero x y e = refl
drop-xors (suc n) [] y e = refl
drop-xors (suc n) (a ∷ x) [] e = absurd (suc-ne-zero (length x) e)
drop-xors (suc n) (a ∷ x) (b ∷ y) e = drop-xors n x y (suc_inj e)

pub bits_xors : (x y : List ℕ) → Bits (xors x y)
bits_xors [] y i = omega arith
bits_xors (a ∷ x) [] i = omega arith
bits_xors (a ∷ x) (b ∷ y) zero = omega arith
bits_xors (a ∷ x) (b ∷ y) (suc i) = bits_xors x y i

pub bits_append : (x y : List ℕ) → Bits x → Bits y → Bits (x ++ y)
bits_append [] y h k i = k i
bits_append (a ∷ x) y h k zero = h 0
bits_append (a ∷ x) y h k (suc i) = bits_append x y (λ n. h (suc n)) k i

-- one more bit
pub bits_more : (u : List ℕ) (b : ℕ) → Bits u → b < 2 → Bits (u ++ b ∷ [])
bits_more [] b h k zero = k
bits_more [] b h k (suc i) = omega arith
bits_more (a ∷ u) b h k zero = h 0
bits_more (a ∷ u) b h k (suc i) = bits_more u b (λ j. h (suc j)) k i

pub bits_take : (n : ℕ) (x : List ℕ) → Bits x → Bits (take n x)
bits_take zero x h i = omega arith
bits_take (suc n) [] h i = omega arith
bits_take (suc n) (a ∷ x) h zero = h 0
bits_take (suc n) (a ∷ x) h (suc i) = bits_take n x (λ k. h (suc k)) i

pub bits_drop : (n : ℕ) (x : List ℕ) → Bits x → Bits (drop n x)
bits_drop n x h i = rw (get_or-drop n x i 0) (h (n + i))

pub get_or-xors : (x y : List ℕ) (i : ℕ) → length x ≡ length y → get_or (xors x y) i 0 ≡ (get_or x i 0 + get_or y i 0) % 2
get_or-xors [] [] i e = refl
get_or-xors [] (b ∷ y) i e = absurd (suc-ne-zero (length y) (sym e))
get_or-xors (a ∷ x) [] i e = absurd (suc-ne-zero (length x) e)
get_or-xors (a ∷ x) (b ∷ y) zero e = refl
get_or-xors (a ∷ x) (b ∷ y) (suc i) e = get_or-xors x y i (suc_inj e)

-- a row added to itself is the zero row
pub xors_self : (x : List ℕ) → xors x x ≡ replicate (length x) 0
xors_self [] = refl
xors_self (a ∷ x) =
    let e : (a + a) % 2 ≡ 0 = omega arith in
    ap₂ ◌∷◌ e (xors_self x)

pub xors-zeros : (n : ℕ) (x : List ℕ) → length x ≡ n → Bits x → xors x (replicate n 0) ≡ x
xors-zeros n x e h = ap (xors x) (sym (xors_self x ∙ ap (λ (k : ℕ). replicate k 0) e)) ∙ xors_undo x x refl h

pub bits_zeros : (n : ℕ) → Bits (replicate n 0)
bits_zeros zero i = omega arith
bits_zeros (suc n) zero = omega arith
bits_zeros (suc n) (suc i) = bits_zeros n i

-- ---- the transform
pub length-transform : (m : ℕ) (x : List ℕ) → length x ≡ 2 ^ m → length (transform m x) ≡ 2 ^ m
unfolding transform
length-transform zero x e = e
length-transform (suc m) x e =
    let la = length-transform m (take (2 ^ m) x) (length-first m x e) in
    let lb = length-transform m (drop (2 ^ m) x) (length-second m x e) in
    let a = transform m (take (2 ^ m) x) in
    let b = transform m (drop (2 ^ m) x) in
    length-append (xors a b) b ∙ omega (arith, length-xors a b (la ∙ sym lb), la, lb, two-pow-succ m)

pub bits_transform : (m : ℕ) (x : List ℕ) → Bits x → Bits (transform m x)
unfolding transform
bits_transform zero x h = h
bits_transform (suc m) x h =
    let a = transform m (take (2 ^ m) x) in
    let b = transform m (drop (2 ^ m) x) in
    bits_append (xors a b) b (bits_xors a b) (bits_transform m (drop (2 ^ m) x) (bits_drop (2 ^ m) x h))

-- linear
pub transform-xors : (m : ℕ) (x y : List ℕ) → length x ≡ 2 ^ m → length y ≡ 2 ^ m → transform m (xors x y) ≡ xors (transform m x) (transform m y)
unfolding transform
transform-xors zero x y e f = refl
transform-xors (suc m) x y e f =
    let xa = take (2 ^ m) x in
    let xb = drop (2 ^ m) x in
    let ya = take (2 ^ m) y in
    let yb = drop (2 ^ m) y in
    let lxa = length-transform m xa (length-first m x e) in
    let lxb = length-transform m xb (length-second m x e) in
    let lya = length-transform m ya (length-first m y f) in
    let lyb = length-transform m yb (length-second m y f) in
    rw (
      take-xors (2 ^ m) x y,
      drop-xors (2 ^ m) x y (e ∙ sym f),
      transform-xors m xa ya (length-first m x e) (length-first m y f),
      transform-xors m xb yb (length-second m x e) (length-second m y f),
    )
    (ap (λ (l : List ℕ). l ++ xors (transform m xb) (transform m yb))
    (xors_swap (transform m xa) (transform m ya) (transform m xb) (transform m yb) (lxa ∙ sym lya) (lxa ∙ sym lxb) (lxa ∙ sym lyb))
    ∙ sym (xors-append (xors (transform m xa) (transform m xb)) (transform m xb) (xors (transform m ya) (transform m yb)) (transform m yb)
    (length-xors (transform m xa) (transform m xb) (lxa ∙ sym lxb) ∙ lxa ∙ sym (length-xors (transform m ya) (transform m yb) (lya ∙ sym lyb) ∙ lya))))

pub transform-zeros : (m : ℕ) → transform m (replicate (2 ^ m) 0) ≡ replicate (2 ^ m) 0
transform-zeros m =
    let z : List ℕ = replicate (2 ^ m) 0 in
    let l : length z ≡ 2 ^ m = length-replicate (2 ^ m) 0 in
    ap (transform m) (sym (xors_self z ∙ ap (λ (n : ℕ). replicate n 0) l)) ∙ transform-xors m z z l l
    ∙ xors_self (transform m z) ∙ ap (λ (n : ℕ). replicate n 0) (length-transform m z l)

-- its own inverse
pub transform-twice : (m : ℕ) (x : List ℕ) → length x ≡ 2 ^ m → Bits x → transform m (transform m x) ≡ x
unfolding transform
transform-twice zero x e h = refl
transform-twice (suc m) x e h =
    let xa = take (2 ^ m) x in
    let xb = drop (2 ^ m) x in
    let a = transform m xa in
    let b = transform m xb in
    let la = length-transform m xa (length-first m x e) in
    let lb = length-transform m xb (length-second m x e) in
    let ls = length-xors a b (la ∙ sym lb) ∙ la in
    rw (
      take_at (xors a b) b (2 ^ m) ls,
      drop_at (xors a b) b (2 ^ m) ls,
      transform-xors m a b la lb,
      transform-twice m xa (length-first m x e) (bits_take (2 ^ m) x h),
      transform-twice m xb (length-second m x e) (bits_drop (2 ^ m) x h),
      xors-twice xa xb (length-first m x e ∙ sym (length-second m x e)) (bits_take (2 ^ m) x h),
    )
    (take-append-drop (2 ^ m) x)
