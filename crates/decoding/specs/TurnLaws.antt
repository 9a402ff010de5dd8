-- Readings negated where a word has 1: each keeps its size, and the rows and values of the steps change sign with the row u that the word comes from.
use Rattle.std.specs.Prelude.{◌≡◌, refl, ℕ, zero, suc, ◌+◌, ◌^◌, ◌%◌, ◌≤◌, ◌<◌, length, get_or, take, drop, ℤ, nat_abs, ◌+ℤ◌, ◌-ℤ◌, neg_ℤ}
use Rattle.std.proofs.Math.Path.{ap, sym}
use Rattle.std.proofs.Common.{ap₂, ◌∙◌, ⊎_elim, arith, suc-ne-zero, not-suc-le-zero, le_of_suc-le-suc, le_of_lt, length-drop, length-take-le, take_at, drop_at}
use Rattle.std.proofs.Common.{take-take, get_or-take, get_or-drop, lt-ltb, le-ltb}
use mathlib.Core.List.{List, [], ◌∷◌, ◌++◌}
use Rattle.std.proofs.Math.Nat.{suc_inj, two-pow-succ}
use Rattle.std.proofs.Math.IntN.{neg_ℤ-neg_ℤ, neg_ℤ-+ℤ}
use Rattle.numbers.specs.PartsLaws.{parts, negated}
use Rattle.numbers.specs.Choice.{lt_or_le}
use Rattle.numbers.specs.Halves.{length-first, length-second, drop-take}
use Rattle.words.specs.Bits.{Bits, xors}
use Rattle.words.specs.Word.{transform}
use Rattle.words.specs.TransformLaws.{length-xors, take-xors, drop-xors, bits_take, bits_drop, length-transform, bits_transform, transform-xors}
use Rattle.decoding.specs.Readings.{loss, turn, penalty, turns, Within}
use Rattle.decoding.specs.Quick.{lower, upper, lowers, uppers, lower_row, upper_row}
use Rattle.decoding.specs.Walk.{value}
use Rattle.decoding.specs.StepLaws.{lower_comm, lower-negated, long_lower_row, long_upper_row}

-- ---- one reading
pub size-turn : (b : ℕ) (r : ℤ) → nat_abs (turn b r) ≡ nat_abs r
size-turn zero r = refl
size-turn (suc b) r = omega (arith, parts r, parts (neg_ℤ r), negated r)

-- the turned reading contradicts the turned bit as the reading contradicts the bit
pub loss-turn : (a b : ℕ) (r : ℤ) → a < 2 → b < 2 → loss (turn a r) ((b + a) % 2) ≡ loss r b
loss-turn zero zero r h k = refl
loss-turn zero (suc zero) r h k = refl
loss-turn (suc zero) zero r h k = (negated r).up-negated
loss-turn (suc zero) (suc zero) r h k = (negated r).down-negated
loss-turn zero (suc (suc b)) r h k = absurd (omega arith)
loss-turn (suc zero) (suc (suc b)) r h k = absurd (omega arith)
loss-turn (suc (suc a)) b r h k = absurd (omega arith)

-- ---- a row of readings
pub length-turns : (c : List ℕ) (l : List ℤ) → length c ≡ length l → length (turns c l) ≡ length l
length-turns [] l e = e
length-turns (b ∷ c) [] e = absurd (suc-ne-zero (length c) e)
length-turns (b ∷ c) (r ∷ l) e = ap suc (length-turns c l (suc_inj e))

pub within_turns : (largest : ℕ) (c : List ℕ) (l : List ℤ) → Within largest l → Within largest (turns c l)
within_turns largest [] l h i = omega arith
within_turns largest (b ∷ c) [] h i = omega arith
within_turns largest (b ∷ c) (r ∷ l) h zero = omega (arith, size-turn b r, h 0)
within_turns largest (b ∷ c) (r ∷ l) h (suc i) = within_turns largest c l (λ j. h (suc j)) i

pub penalty-turns : (c : List ℕ) (l : List ℤ) (x : List ℕ) → length c ≡ length l → length x ≡ length l → Bits c → Bits x
    → penalty (turns c l) (xors x c) ≡ penalty l x
unfolding penalty
penalty-turns [] [] x e f h k = refl
penalty-turns [] (r ∷ l) x e f h k = absurd (suc-ne-zero (length l) (sym e))
penalty-turns (a ∷ c) [] x e f h k = absurd (suc-ne-zero (length c) e)
penalty-turns (a ∷ c) (r ∷ l) [] e f h k = absurd (suc-ne-zero (length l) (sym f))
penalty-turns (a ∷ c) (r ∷ l) (b ∷ x) e f h k =
    ap₂ ◌+◌ (loss-turn a b r (h 0) (k 0)) (penalty-turns c l x (suc_inj e) (suc_inj f) (λ i. h (suc i)) (λ i. k (suc i)))

take-turns : (n : ℕ) (c : List ℕ) (l : List ℤ) → take n (turns c l) ≡ turns (take n c) (take n l)
take-turns zero c l = refl
take-turns (suc n) [] l = refl
take-turns (suc n) (b ∷ c) [] = refl
take-turns (suc n) (b ∷ c) (r ∷ l) = ap (λ (k : List ℤ). turn b r ∷ k) (take-turns n c l)

drop-turns : (n : ℕ) (c : List ℕ) (l : List ℤ) → length c ≡ length l → drop n (turns c l) ≡ turns (drop n c) (drop n l)
drop-turns zero c l e = refl
drop-turns (suc n) [] l e = refl
drop-turns (suc n) (b ∷ c) [] e = absurd (suc-ne-zero (length c) e)
drop-turns (suc n) (b ∷ c) (r ∷ l) e = drop-turns n c l (suc_inj e)

-- ---- one step, where the halves' bits are a + b and b
lower_negated' : (x y : ℤ) → lower x (neg_ℤ y) ≡ neg_ℤ (lower x y)
lower_negated' x y = lower_comm x (neg_ℤ y) ∙ lower-negated y x ∙ ap neg_ℤ (lower_comm y x)

lower-turn : (a b : ℕ) (x y : ℤ) → a < 2 → b < 2 → lower (turn ((a + b) % 2) x) (turn b y) ≡ turn a (lower x y)
lower-turn zero zero x y h k = refl
lower-turn zero (suc zero) x y h k = rw (lower-negated, lower_negated', neg_ℤ-neg_ℤ)
lower-turn (suc zero) zero x y h k = lower-negated x y
lower-turn (suc zero) (suc zero) x y h k = lower_negated' x y
lower-turn zero (suc (suc b)) x y h k = absurd (omega arith)
lower-turn (suc zero) (suc (suc b)) x y h k = absurd (omega arith)
lower-turn (suc (suc a)) b x y h k = absurd (omega arith)

difference_negated : (x y : ℤ) → neg_ℤ (y -ℤ x) ≡ neg_ℤ y +ℤ x
difference_negated x y = neg_ℤ-+ℤ y (neg_ℤ x) ∙ ap (λ (z : ℤ). neg_ℤ y +ℤ z) (neg_ℤ-neg_ℤ x)

upper-turn : (a b c : ℕ) (x y : ℤ) → a < 2 → b < 2 → c < 2 → upper (turn ((a + b) % 2) x) (turn b y) ((c + a) % 2) ≡ turn b (upper x y c)
upper-turn zero zero zero x y h k l = refl
upper-turn zero zero (suc zero) x y h k l = refl
upper-turn zero (suc zero) zero x y h k l = sym (neg_ℤ-+ℤ y x)
upper-turn zero (suc zero) (suc zero) x y h k l = ap (λ (z : ℤ). neg_ℤ y +ℤ z) (neg_ℤ-neg_ℤ x) ∙ sym (difference_negated x y)
upper-turn (suc zero) zero zero x y h k l = ap (λ (z : ℤ). y +ℤ z) (neg_ℤ-neg_ℤ x)
upper-turn (suc zero) zero (suc zero) x y h k l = refl
upper-turn (suc zero) (suc zero) zero x y h k l = sym (neg_ℤ-+ℤ y x)
upper-turn (suc zero) (suc zero) (suc zero) x y h k l = sym (difference_negated x y)
upper-turn zero zero (suc (suc c)) x y h k l = absurd (omega arith)
upper-turn zero (suc zero) (suc (suc c)) x y h k l = absurd (omega arith)
upper-turn (suc zero) zero (suc (suc c)) x y h k l = absurd (omega arith)
upper-turn (suc zero) (suc zero) (suc (suc c)) x y h k l = absurd (omega arith)
upper-turn zero (suc (suc b)) c x y h k l = absurd (omega arith)
upper-turn (suc zero) (suc (suc b)) c x y h k l = absurd (omega arith)
upper-turn (suc (suc a)) b c x y h k l = absurd (omega arith)

-- ---- the rows of a step
lowers-turns : (a b : List ℕ) (x y : List ℤ) → length x ≡ length y → length a ≡ length x → length b ≡ length x → Bits a → Bits b
    → lowers (turns (xors a b) x) (turns b y) ≡ turns a (lowers x y)
lowers-turns [] b x y e f g h k = refl
lowers-turns (p ∷ a) [] x y e f g h k = absurd (suc-ne-zero (length a) (f ∙ sym g))
lowers-turns (p ∷ a) (q ∷ b) [] y e f g h k = refl
lowers-turns (p ∷ a) (q ∷ b) (z ∷ x) [] e f g h k = absurd (suc-ne-zero (length x) e)
lowers-turns (p ∷ a) (q ∷ b) (z ∷ x) (w ∷ y) e f g h k =
    ap₂ ◌∷◌ (lower-turn p q z w (h 0) (k 0)) (lowers-turns a b x y (suc_inj e) (suc_inj f) (suc_inj g) (λ i. h (suc i)) (λ i. k (suc i)))

uppers-turns : (a b c : List ℕ) (x y : List ℤ) → length x ≡ length y → length a ≡ length x → length b ≡ length x → length c ≡ length x
    → Bits a → Bits b → Bits c → uppers (turns (xors a b) x) (turns b y) (xors c a) ≡ turns b (uppers x y c)
uppers-turns [] [] c x y e f g i h k l = refl
uppers-turns [] (q ∷ b) c x y e f g i h k l = absurd (suc-ne-zero (length b) (g ∙ sym f))
uppers-turns (p ∷ a) [] c x y e f g i h k l = absurd (suc-ne-zero (length a) (f ∙ sym g))
uppers-turns (p ∷ a) (q ∷ b) [] x y e f g i h k l = absurd (suc-ne-zero (length a) (f ∙ sym i))
uppers-turns (p ∷ a) (q ∷ b) (r ∷ c) [] y e f g i h k l = refl
uppers-turns (p ∷ a) (q ∷ b) (r ∷ c) (z ∷ x) [] e f g i h k l = absurd (suc-ne-zero (length x) e)
uppers-turns (p ∷ a) (q ∷ b) (r ∷ c) (z ∷ x) (w ∷ y) e f g i h k l =
    ap₂ ◌∷◌ (upper-turn p q r z w (h 0) (k 0) (l 0))
    (uppers-turns a b c x y (suc_inj e) (suc_inj f) (suc_inj g) (suc_inj i) (λ n. h (suc n)) (λ n. k (suc n)) (λ n. l (suc n)))

-- the readings l, negated where the word of the row v has 1
module _ (m : ℕ) (l : List ℤ) (v : List ℕ) (e : length l ≡ 2 ^ suc m) (f : length v ≡ 2 ^ suc m) (h : Bits v) where
  length-a : length (transform m (take (2 ^ m) v)) ≡ 2 ^ m
  length-a = length-transform m (take (2 ^ m) v) (length-first m v f)

  length-b : length (transform m (drop (2 ^ m) v)) ≡ 2 ^ m
  length-b = length-transform m (drop (2 ^ m) v) (length-second m v f)

  bits_a : Bits (transform m (take (2 ^ m) v))
  bits_a = bits_transform m (take (2 ^ m) v) (bits_take (2 ^ m) v h)

  bits_b : Bits (transform m (drop (2 ^ m) v))
  bits_b = bits_transform m (drop (2 ^ m) v) (bits_drop (2 ^ m) v h)

  length-a+b : length (xors (transform m (take (2 ^ m) v)) (transform m (drop (2 ^ m) v))) ≡ 2 ^ m
  length-a+b = length-xors (transform m (take (2 ^ m) v)) (transform m (drop (2 ^ m) v)) (length-a ∙ sym length-b) ∙ length-a

  first-turned : take (2 ^ m) (turns (transform (suc m) v) l) ≡ turns (xors (transform m (take (2 ^ m) v)) (transform m (drop (2 ^ m) v))) (take (2 ^ m) l)
  unfolding transform
  first-turned =
      let a = transform m (take (2 ^ m) v) in
      let b = transform m (drop (2 ^ m) v) in
      take-turns (2 ^ m) (transform (suc m) v) l ∙ ap (λ (c : List ℕ). turns c (take (2 ^ m) l)) (take_at (xors a b) b (2 ^ m) length-a+b)

  second-turned : drop (2 ^ m) (turns (transform (suc m) v) l) ≡ turns (transform m (drop (2 ^ m) v)) (drop (2 ^ m) l)
  unfolding transform
  second-turned =
      let a = transform m (take (2 ^ m) v) in
      let b = transform m (drop (2 ^ m) v) in
      drop-turns (2 ^ m) (transform (suc m) v) l (length-transform (suc m) v f ∙ sym e)
      ∙ ap (λ (c : List ℕ). turns c (drop (2 ^ m) l)) (drop_at (xors a b) b (2 ^ m) length-a+b)

  lower_row-turned : lower_row (2 ^ m) (turns (transform (suc m) v) l) ≡ turns (transform m (take (2 ^ m) v)) (lower_row (2 ^ m) l)
  lower_row-turned =
      let x = length-first m l e in
      ap₂ lowers first-turned second-turned
      ∙ lowers-turns (transform m (take (2 ^ m) v)) (transform m (drop (2 ^ m) v)) (take (2 ^ m) l) (drop (2 ^ m) l)
      (x ∙ sym (length-second m l e)) (length-a ∙ sym x) (length-b ∙ sym x) bits_a bits_b

  upper_row-turned : (c : List ℕ) → length c ≡ 2 ^ m → Bits c
      → upper_row (2 ^ m) (turns (transform (suc m) v) l) (xors c (transform m (take (2 ^ m) v))) ≡ turns (transform m (drop (2 ^ m) v)) (upper_row (2 ^ m) l c)
  upper_row-turned c length_c bits-c =
      let a = transform m (take (2 ^ m) v) in
      let x = length-first m l e in
      ap₂ (λ (x y : List ℤ). uppers x y (xors c a)) first-turned second-turned
      ∙ uppers-turns a (transform m (drop (2 ^ m) v)) c (take (2 ^ m) l) (drop (2 ^ m) l)
      (x ∙ sym (length-second m l e)) (length-a ∙ sym x) (length-b ∙ sym x) (length_c ∙ sym x) bits_a bits_b bits-c

-- ---- paths and values
-- the choices u, changed where the row v has 1
abbrev pub changed : List ℕ → List ℕ → List ℕ
changed u v = xors u (take (length u) v)

length-changed : (u v : List ℕ) → length u ≤ length v → length (changed u v) ≡ length u
length-changed u v h = length-xors u (take (length u) v) (sym (length-take-le (length u) v h))

pub changed-more : (u v : List ℕ) (b : ℕ) → length u < length v → changed (u ++ b ∷ []) v ≡ changed u v ++ ((b + get_or v (length u) 0) % 2) ∷ []
changed-more u [] b h = absurd (not-suc-le-zero h)
changed-more [] (a ∷ v) b h = refl
changed-more (c ∷ u) (a ∷ v) b h = ap (λ (l : List ℕ). (c + a) % 2 ∷ l) (changed-more u v b (le_of_suc-le-suc h))

-- the value of the turned readings after the changed choices is the value, turned by v's bit at that index
pub value-turned : (m : ℕ) (l : List ℤ) (u v : List ℕ) → length l ≡ 2 ^ m → length v ≡ 2 ^ m → length u < 2 ^ m → Bits u → Bits v
    → value m (turns (transform m v) l) (changed u v) ≡ turn (get_or v (length u) 0) (value m l u)
unfolding value transform
value-turned zero [] u v e f h i j = absurd (omega arith)
value-turned zero (r ∷ l) (b ∷ u) v e f h i j = absurd (omega arith)
value-turned zero (r ∷ l) [] [] e f h i j = absurd (omega arith)
value-turned zero (r ∷ l) [] (a ∷ v) e f h i j = refl
value-turned (suc m) l u v e f h i j =
    let n = length u in
    let same : length (changed u v) ≡ n = length-changed u v (omega arith) in
    ⊎_elim
    (λ k. rw (same, lt-ltb n (2 ^ m) k, lower_row-turned m l v e f j)
    (rw (take-take n (2 ^ m) v (le_of_lt k), get_or-take (2 ^ m) v n 0 k) at
    (value-turned m (lower_row (2 ^ m) l) u (take (2 ^ m) v) (long_lower_row m l e) (length-first m v f) k i (bits_take (2 ^ m) v j))))
    (λ k.
    let u1 = take (2 ^ m) u in
    let u2 = drop (2 ^ m) u in
    let v1 = take (2 ^ m) v in
    let v2 = drop (2 ^ m) v in
    let c = transform m u1 in
    let length_u1 = length-take-le (2 ^ m) u k in
    let length_c = length-transform m u1 length_u1 in
    let first : take (2 ^ m) (changed u v) ≡ xors u1 v1 = take-xors (2 ^ m) u (take n v) ∙ ap (xors u1) (take-take (2 ^ m) n v k) in
    let second : drop (2 ^ m) (changed u v) ≡ changed u2 v2 =
    drop-xors (2 ^ m) u (take n v) (sym (length-take-le n v (omega arith)))
    ∙ ap (xors u2) (drop-take (2 ^ m) n v ∙ ap (λ (z : ℕ). take z v2) (sym (length-drop (2 ^ m) u))) in
    let whole : 2 ^ m + length u2 ≡ n = omega (arith, length-drop (2 ^ m) u) in
    rw (same, le-ltb n (2 ^ m) k)
    (ap₂ (value m)
    (ap (upper_row (2 ^ m) (turns (transform (suc m) v) l)) (ap (transform m) first ∙ transform-xors m u1 v1 length_u1 (length-first m v f))
    ∙ upper_row-turned m l v e f j c length_c (bits_transform m u1 (bits_take (2 ^ m) u i)))
    second
    ∙ value-turned m (upper_row (2 ^ m) l c) u2 v2 (long_upper_row m l e c length_c) (length-second m v f)
    (omega (arith, whole, two-pow-succ m)) (bits_drop (2 ^ m) u i) (bits_drop (2 ^ m) v j)
    ∙ ap (λ (z : ℕ). turn z (value m (upper_row (2 ^ m) l c) u2)) (get_or-drop (2 ^ m) v (length u2) 0 ∙ ap (λ (z : ℕ). get_or v z 0) whole)))
    (lt_or_le n (2 ^ m))
