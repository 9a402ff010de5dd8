-- Laws of floats that are whole numbers: each step on them is exact while the results stay below 2 ^ 24.
use Rattle.std.specs.Prelude.{◌≡◌, refl, Bool, not, cond, ◌&&◌, ◌||◌, ℕ, zero, suc, ◌+◌, ◌-◌, ◌*◌, ◌/◌, ◌%◌, ◌^◌, ◌≤◌, ◌<◌, ℤ, pos, negsuc, neg_ℤ, nat_abs}
use Rattle.std.specs.Prelude.{◌+ℤ◌, ltb, leb, eqb, Float}
use Rattle.std.proofs.Common.{ap, ap₂, sym, ◌∙◌, ⊎_elim, mul-pos, mul_comm, mul_assoc, mul_right_comm, mul-one, add-mul, mul-div_cancel}
use Rattle.std.proofs.Common.{mul-lt-mul_of_pos_right, mul-le-mul_right, div-add-mod', add-zero, zero-add, zero-mul, zero-lt-suc, arith, lt-ltb, le-ltb, le-leb}
use Rattle.std.proofs.Common.{eq-eqb, ne_eqb, eqb-true}
use Rattle.std.proofs.Math.Bool.{true, false}
use Rattle.std.specs.Bool.{beq}
use Rattle.std.proofs.lemmas.Bool.{false≢true, lt-leb}
use Rattle.std.proofs.Math.Nat.{mul-sub, mul-mod_left, eq_of_mul-eq-mul_right}
use Rattle.std.proofs.Math.IntN.{neg_ℤ-neg_ℤ, pos-ne-negsuc}
use Rattle.std.specs.Int.Signed.{lt_z}
use Rattle.std.specs.Float.Ieee as Ieee
use Rattle.std.specs.Float.{nan, inf, fin, binary32}
use Rattle.std.specs.Float.Ieee.{round}
use Rattle.std.specs.Float.Ieee.Fits.{down_pos}
use Rattle.std.specs.Float.Ieee.Exact.{HasValue}
use Rattle.std.specs.Float.Ieee.Scale.{round_same}
use Rattle.std.specs.Float.Ieee.Back.{round_whole}
use Rattle.numbers.specs.PartsLaws.{sum_parts, negated, by_parts}
use Rattle.numbers.specs.Choice.{cond_by, lt_or_le}
use Rattle.float_numbers.specs.Whole.{signed, Equals, Represents, outside, whole_of, float}
use Rattle.float_numbers.specs.WholeLaws.{Rounded}

-- ---- signs
pub size-signed : (s : Bool) (n : ℕ) → nat_abs (signed s n) ≡ n
size-signed true zero = refl
size-signed true (suc n) = refl
size-signed false n = refl

-- ---- sizes
same_size : (a b k : ℕ) → 0 < k → a * k ≡ b * k → a ≡ b
same_size a b k h e = eq_of_mul-eq-mul_right k h a b e

-- ---- the number that it is
whole_fin : (s : Bool) (m k d n : ℕ) → 0 < d → m * k ≡ n * d → cond (eqb (m * k % d) 0) (signed s (m * k / d)) outside ≡ signed s n
whole_fin s m k d n h e = rw (e, mul-mod_left n d, mul-div_cancel n h)

pub whole_of-is : (x : Float) (z : ℤ) → Represents x z → whole_of x ≡ z
unfolding whole_of
whole_of-is nan z h = absurd h.equals
whole_of-is (inf s) z h = absurd h.equals
whole_of-is (fin s m e) z h = whole_fin s m (Ieee.up e) (Ieee.down e) (nat_abs z) (down_pos e) h.equals.0 ∙ h.equals.1

-- `outside` is not small, so a small number is one that the float is
pub represents_small : (x : Float) → nat_abs (whole_of x) < 2 ^ 24 → Represents x (whole_of x)
unfolding whole_of
represents_small nan h = absurd (omega arith)
represents_small (inf s) h = absurd (omega arith)
represents_small (fin s m e) h =
    let a = m * Ieee.up e in
    let d = Ieee.down e in
    cond_by (λ (z : ℤ). nat_abs z < 2 ^ 24 → Represents (fin s m e) z) (eqb (a % d) 0) (signed s (a / d)) outside
    (λ t k. record {
      equals = (
        sym (div-add-mod' a d) ∙ rw (eqb-true (a % d) 0 t, size-signed s (a / d), add-zero),
        ap (signed s) (size-signed s (a / d)),
      );
    })
    (λ t k. absurd (omega arith)) h

-- ---- two of them over a common denominator
first-over : (x a c d : ℕ) → x ≡ a * c → x * d ≡ a * (c * d)
first-over x a c d h = ap (λ (y : ℕ). y * d) h ∙ mul_assoc a c d

second-over : (y b c d : ℕ) → y ≡ b * d → y * c ≡ b * (c * d)
second-over y b c d h = ap (λ (x : ℕ). x * c) h ∙ mul_right_comm b d c ∙ mul_assoc b c d

-- ---- order
pub same_ltb : (a b c d : ℕ) → (a < b → c < d) → (b ≤ a → d ≤ c) → ltb a b ≡ ltb c d
same_ltb a b c d f g = ⊎_elim (λ h. rw (lt-ltb a b h, lt-ltb c d (f h))) (λ h. rw (le-ltb a b h, le-ltb c d (g h))) (lt_or_le a b)

module _ (k : ℕ) (some : 0 < k) where
  scaled_ltb : (a b : ℕ) → ltb (a * k) (b * k) ≡ ltb a b
  scaled_ltb a b = sym (same_ltb a b (a * k) (b * k) (λ h. mul-lt-mul_of_pos_right h some) (λ h. mul-le-mul_right k h))

  above_zero : (a : ℕ) → 0 < suc a * k
  above_zero a = mul-pos (zero-lt-suc a) some

  below-signed : (s t : Bool) (a b : ℕ) → Ieee.below s (a * k) t (b * k) ≡ lt_z (signed s a) (signed t b)
  below-signed false false a b = scaled_ltb a b
  below-signed false true a zero = sym (le-ltb a 0 (omega arith))
  below-signed false true a (suc b) = refl
  below-signed true false zero b = rw (zero-mul k, zero-add (b * k)) (ap (λ (x : ℕ). ltb x (b * k)) (sym (zero-mul k)) ∙ scaled_ltb 0 b)
  below-signed true false (suc a) b = lt-ltb 0 (suc a * k + b * k) (omega (arith, above_zero a))
  below-signed true true zero zero = scaled_ltb 0 0
  below-signed true true zero (suc b) = le-ltb (suc b * k) (0 * k) (omega (arith, zero-mul k))
  below-signed true true (suc a) zero = lt-ltb (0 * k) (suc a * k) (omega (arith, zero-mul k, above_zero a))
  below-signed true true (suc a) (suc b) = scaled_ltb (suc b) (suc a) ∙ same_ltb (suc b) (suc a) b a (λ h. omega arith) (λ h. omega arith)

less : (x y : Float) (a b : ℤ) → Equals x a → Equals y b → Ieee.lt x y ≡ lt_z a b
unfolding Ieee.lt
less nan y a b h k = absurd h
less (inf s) y a b h k = absurd h
less (fin s m e) nan a b h k = absurd k
less (fin s m e) (inf t) a b h k = absurd k
less (fin s m e) (fin t n d) a b h k =
    let c = Ieee.down e in
    let g = Ieee.down d in
    ap₂ (λ (p q : ℕ). Ieee.below s p t q) (first-over (m * Ieee.up e) (nat_abs a) c g h.0) (second-over (n * Ieee.up d) (nat_abs b) c g k.0)
    ∙ below-signed (c * g) (mul-pos (down_pos e) (down_pos d)) s t (nat_abs a) (nat_abs b)
    ∙ ap₂ lt_z h.1 k.1

pub lt_represents : {x y : Float} {a b : ℤ} → Represents x a → Represents y b → Ieee.lt x y ≡ lt_z a b
lt_represents h k = less _ _ _ _ h.equals k.equals

not_less_level : (a b : ℕ) → (ltb a b || (eqb a b && true)) ≡ not (ltb b a)
not_less_level a b =
    ⊎_elim
    (λ h. rw (lt-ltb a b h, le-ltb b a (omega arith)))
    (λ h. ⊎_elim
    (λ k. rw (le-ltb a b h, lt-ltb b a k, ne_eqb a b (λ e. omega arith)))
    (λ k. rw (le-ltb a b h, le-ltb b a k, eq-eqb a b (omega arith)))
    (lt_or_le b a))
    (lt_or_le a b)

eqb-turned : (a b : ℕ) → eqb a b ≡ eqb b a
eqb-turned a b =
    ⊎_elim
    (λ h. rw (ne_eqb a b (λ e. omega arith), ne_eqb b a (λ e. omega arith)))
    (λ h. ⊎_elim
    (λ k. rw (ne_eqb a b (λ e. omega arith), ne_eqb b a (λ e. omega arith)))
    (λ k. rw (eq-eqb a b (omega arith), eq-eqb b a (omega arith)))
    (lt_or_le b a))
    (lt_or_le a b)

no_zero : (a b : ℕ) → (eqb a b && eqb a 0) ≡ not (ltb 0 (b + a))
no_zero zero zero = refl
no_zero zero (suc b) = rw (ne_eqb 0 (suc b) (λ e. omega arith), lt-ltb 0 (suc b + 0) (omega arith))
no_zero (suc a) b = rw (ne_eqb (suc a) 0 (λ e. omega arith), lt-ltb 0 (b + suc a) (omega arith)) (both_false (eqb (suc a) b))
  where
    both_false : (z : Bool) → (z && false) ≡ false
    both_false true = refl
    both_false false = refl

either_way : (a b : ℕ) → (ltb 0 (a + b) || (eqb a b && eqb a 0)) ≡ true
either_way zero zero = refl
either_way zero (suc b) = rw (lt-ltb 0 (0 + suc b) (omega arith))
either_way (suc a) b = rw (lt-ltb 0 (suc a + b) (omega arith))

not-below : (s t : Bool) (a b : ℕ) → (Ieee.below s a t b || Ieee.level s a t b) ≡ not (Ieee.below t b s a)
not-below false false a b = not_less_level a b
not-below false true a b = no_zero a b
not-below true false a b = either_way a b
not-below true true a b = ap (λ (z : Bool). ltb b a || (z && true)) (eqb-turned a b) ∙ not_less_level b a

at_most_lem : (x y : Float) (a b : ℤ) → Equals x a → Equals y b → Ieee.le x y ≡ not (Ieee.lt y x)
unfolding Ieee.le
at_most_lem nan y a b h k = absurd h
at_most_lem (inf s) y a b h k = absurd h
at_most_lem (fin s m e) nan a b h k = absurd k
at_most_lem (fin s m e) (inf t) a b h k = absurd k
at_most_lem (fin s m e) (fin t n d) a b h k = not-below s t (m * Ieee.up e * Ieee.down d) (n * Ieee.up d * Ieee.down e)

pub le_represents : {x y : Float} {a b : ℤ} → Represents x a → Represents y b → Ieee.le x y ≡ not (lt_z b a)
le_represents h k = at_most_lem _ _ _ _ h.equals k.equals ∙ ap not (lt_represents k h)

-- ---- equality: the same number, whichever zero it is
same_sign : (s t : Bool) (a k : ℕ) → 0 < k → (beq s t || eqb (a * k) 0) ≡ true → signed s a ≡ signed t a
same_sign true true a k h e = refl
same_sign false false a k h e = refl
same_sign true false zero k h e = refl
same_sign true false (suc a) k h e = absurd (omega (arith, mul-pos (zero-lt-suc a) h, eqb-true (suc a * k) 0 e))
same_sign false true zero k h e = refl
same_sign false true (suc a) k h e = absurd (omega (arith, mul-pos (zero-lt-suc a) h, eqb-true (suc a * k) 0 e))

first_of : (p q : Bool) → (p && q) ≡ true → p ≡ true
first_of true q e = refl
first_of false q e = e

second_of_lem : (p q : Bool) → (p && q) ≡ true → q ≡ true
second_of_lem true q e = e
second_of_lem false q e = absurd (false≢true e)

equal : (x y : Float) (a : ℤ) → Equals x a → Ieee.eq x y ≡ true → Equals y a
unfolding Ieee.eq
equal nan y a h e = absurd h
equal (inf s) y a h e = absurd h
equal (fin s m e) nan a h q = absurd (false≢true q)
equal (fin s m e) (inf t) a h q = absurd (false≢true q)
equal (fin s m e) (fin t n d) a h q =
    let x = m * Ieee.up e * Ieee.down d in
    let y = n * Ieee.up d * Ieee.down e in
    let z = nat_abs a in
    let is : x ≡ z * (Ieee.down e * Ieee.down d) = first-over (m * Ieee.up e) z (Ieee.down e) (Ieee.down d) h.0 in
    let same : x ≡ y = eqb-true x y (first_of (eqb x y) (beq s t || eqb x 0) q) in (
      same_size (n * Ieee.up d) (z * Ieee.down d) (Ieee.down e) (down_pos e)
          (sym same ∙ is ∙ sym (second-over (z * Ieee.down d) z (Ieee.down e) (Ieee.down d) refl)),
      sym (same_sign s t z (Ieee.down e * Ieee.down d) (mul-pos (down_pos e) (down_pos d))
          (rw is at (second_of_lem (eqb x y) (beq s t || eqb x 0) q))) ∙ h.1,
    )

pub eq_represents : {x y : Float} {a : ℤ} → Represents x a → Ieee.eq x y ≡ true → Represents y a
eq_represents h e = record { equals = equal _ _ _ h.equals e }

alike : (s t : Bool) (z k : ℕ) → signed s z ≡ signed t z → (beq s t || eqb (z * k) 0) ≡ true
alike true true z k e = refl
alike false false z k e = refl
alike true false zero k e = eq-eqb (0 * k) 0 (zero-mul k)
alike true false (suc z) k e = absurd (pos-ne-negsuc (suc z) z (sym e))
alike false true zero k e = eq-eqb (0 * k) 0 (zero-mul k)
alike false true (suc z) k e = absurd (pos-ne-negsuc (suc z) z e)

one_number : (x y : Float) (a : ℤ) → Equals x a → Equals y a → Ieee.eq x y ≡ true
unfolding Ieee.eq
one_number nan y a h k = absurd h
one_number (inf s) y a h k = absurd h
one_number (fin s m e) nan a h k = absurd k
one_number (fin s m e) (inf t) a h k = absurd k
one_number (fin s m e) (fin t n d) a h k =
    let c = Ieee.down e in
    let g = Ieee.down d in
    let z = nat_abs a in
    ap₂ (λ (p q : ℕ). eqb p q && (beq s t || eqb p 0)) (first-over (m * Ieee.up e) z c g h.0) (second-over (n * Ieee.up d) z c g k.0)
    ∙ ap₂ ◌&&◌ (eq-eqb (z * (c * g)) (z * (c * g)) refl) (alike s t z (c * g) (h.1 ∙ sym k.1))

pub represents_eq : {x y : Float} {a : ℤ} → Represents x a → Represents y a → Ieee.eq x y ≡ true
represents_eq h k = one_number _ _ _ h.equals k.equals

-- ---- the float with the other sign
turned-size : (a : ℤ) → nat_abs (neg_ℤ a) ≡ nat_abs a
turned-size (pos zero) = refl
turned-size (pos (suc n)) = refl
turned-size (negsuc n) = refl

turned-sign : (s : Bool) (n : ℕ) → signed (not s) n ≡ neg_ℤ (signed s n)
turned-sign true n = sym (neg_ℤ-neg_ℤ (pos n))
turned-sign false n = refl

turned : (x : Float) (a : ℤ) → Equals x a → Equals (Ieee.neg x) (neg_ℤ a)
unfolding Ieee.neg
turned nan a h = absurd h
turned (inf s) a h = absurd h
turned (fin s m e) a h = (
  h.0 ∙ ap (λ (n : ℕ). n * Ieee.down e) (sym (turned-size a)),
  ap (signed (not s)) (turned-size a) ∙ turned-sign s (nat_abs a) ∙ ap neg_ℤ h.1,
)

pub neg_represents : {x : Float} {a : ℤ} → Represents x a → Represents (Ieee.neg x) (neg_ℤ a)
neg_represents h = record { equals = turned _ _ h.equals }

pub value_equals : (x : Float) (s : Bool) (n : ℕ) → HasValue x s n 1 → Equals x (signed s n)
value_equals nan s n h = h
value_equals (inf t) s n h = h
value_equals (fin t m e) s n h = (
  sym (mul-one (m * Ieee.up e)) ∙ h.1 ∙ ap (λ (k : ℕ). k * Ieee.down e) (sym (size-signed s n)),
  ap (signed t) (size-signed s n) ∙ ap (λ (u : Bool). signed u n) h.0,
)

-- a small number is a value of the format, so that nothing is rounded
pub rounded_represents : {x : Float} {z : ℤ} → Rounded x z → nat_abs z ≤ 2 ^ 24 → Represents x z
rounded_represents {x} {z} r h =
    let n : r.size ≤ 2 ^ 24 = omega (arith, size-signed r.sign r.size, ap nat_abs r.of) in
    let y = round binary32 r.sign r.size 1 in
    record { equals = rw (r.is, ← r.of) (value_equals y r.sign r.size (round_whole binary32 r.sign r.size n)) }

-- a fraction over k that is a whole number
over-one : (s : Bool) (x n k : ℕ) → 0 < k → x ≡ n * k → round binary32 s x k ≡ round binary32 s n 1
over-one s x n k h e = round_same binary32 s x k n 1 h (zero-lt-suc 0) (mul-one x ∙ e)

-- a sum of two signed numbers: of one sign; of two signs with the second larger; with the first at least as large
signed_same : (s : Bool) (a b : ℕ) → signed s (a + b) ≡ signed s a +ℤ signed s b
signed_same true a b =
    by_parts _ _ (omega (arith, negated (pos (a + b)), negated (pos a), negated (pos b), sum_parts (neg_ℤ (pos a)) (neg_ℤ (pos b))))
signed_same false a b = refl

signed_less : (s : Bool) (a b : ℕ) → a < b → signed (not s) (b - a) ≡ signed s a +ℤ signed (not s) b
signed_less true a b h = by_parts _ _ (omega (arith, negated (pos a), sum_parts (neg_ℤ (pos a)) (pos b)))
signed_less false a b h = by_parts _ _ (omega (arith, negated (pos b), negated (pos (b - a)), sum_parts (pos a) (neg_ℤ (pos b))))

signed-more : (s : Bool) (a b : ℕ) → b ≤ a → signed (s && ltb b a) (a - b) ≡ signed s a +ℤ signed (not s) b
signed-more true a b h =
    ⊎_elim
    (λ k. rw (lt-ltb b a k) (by_parts _ _ (omega (arith, negated (pos a), negated (pos (a - b)), sum_parts (neg_ℤ (pos a)) (pos b)))))
    (λ k. rw (le-ltb b a k) (by_parts _ _ (omega (arith, negated (pos a), sum_parts (neg_ℤ (pos a)) (pos b)))))
    (lt_or_le b a)
signed-more false a b h = by_parts _ _ (omega (arith, negated (pos b), sum_parts (pos a) (neg_ℤ (pos b))))

module _ (k : ℕ) (some : 0 < k) where
  less_over : (a b : ℕ) → b * k - a * k ≡ (b - a) * k
  less_over a b = rw (mul_comm b k, mul_comm a k, mul_comm (b - a) k) (sym (mul-sub k b a))

  sum_same : (s : Bool) (a b : ℕ) → Rounded (round binary32 s (a * k + b * k) k) (signed s a +ℤ signed s b)
  sum_same s a b =
      record { sign = s; size = a + b; is = over-one s (a * k + b * k) (a + b) k some (sym (add-mul a b k)); of = signed_same s a b }

  sum_differ : (s : Bool) (a b : ℕ)
      → Rounded (cond (ltb (a * k) (b * k)) (round binary32 (not s) (b * k - a * k) k) (round binary32 (s && ltb (b * k) (a * k)) (a * k - b * k) k))
      (signed s a +ℤ signed (not s) b)
  sum_differ s a b =
      rw (scaled_ltb k some a b, scaled_ltb k some b a)
      (⊎_elim
      (λ h. rw (lt-ltb a b h)
      (record { sign = not s; size = b - a; is = over-one (not s) (b * k - a * k) (b - a) k some (less_over a b); of = signed_less s a b h }))
      (λ h. rw (le-ltb a b h)
      (record { sign = s && ltb b a; size = a - b; is = over-one (s && ltb b a) (a * k - b * k) (a - b) k some (less_over b a); of = signed-more s a b h }))
      (lt_or_le a b))

  sum-signed : (s t : Bool) (a b : ℕ) → Rounded (Ieee.sum binary32 s (a * k) t (b * k) k) (signed s a +ℤ signed t b)
  unfolding Ieee.sum
  sum-signed true true a b = sum_same true a b
  sum-signed false false a b = sum_same false a b
  sum-signed true false a b = sum_differ true a b
  sum-signed false true a b = sum_differ false a b

-- (sealed, so that a goal keeps the sum as it is)
pub add_fin : (s t : Bool) (m n : ℕ) (e d : ℤ) → Ieee.add binary32 (fin s m e) (fin t n d)
    ≡ Ieee.sum binary32 s (m * Ieee.up e * Ieee.down d) t (n * Ieee.up d * Ieee.down e) (Ieee.down e * Ieee.down d)
unfolding Ieee.add
add_fin s t m n e d = refl

-- over a common denominator
add-over : (s t : Bool) (m n : ℕ) (e d a b : ℤ) → Equals (fin s m e) a → Equals (fin t n d) b → Ieee.add binary32 (fin s m e) (fin t n d)
    ≡ Ieee.sum binary32 s (nat_abs a * (Ieee.down e * Ieee.down d)) t (nat_abs b * (Ieee.down e * Ieee.down d)) (Ieee.down e * Ieee.down d)
add-over s t m n e d a b h k =
    let c = Ieee.down e in
    let g = Ieee.down d in
    add_fin s t m n e d
    ∙ ap₂ (λ (x y : ℕ). Ieee.sum binary32 s x t y (c * g))
    (first-over (m * Ieee.up e) (nat_abs a) c g h.0) (second-over (n * Ieee.up d) (nat_abs b) c g k.0)

added : (x y : Float) (a b : ℤ) → Equals x a → Equals y b → Rounded (Ieee.add binary32 x y) (a +ℤ b)
added nan y a b h k = absurd h
added (inf s) y a b h k = absurd h
added (fin s m e) nan a b h k = absurd k
added (fin s m e) (inf t) a b h k = absurd k
added (fin s m e) (fin t n d) a b h k =
    let c = Ieee.down e * Ieee.down d in
    let r = sum-signed c (mul-pos (down_pos e) (down_pos d)) s t (nat_abs a) (nat_abs b) in
    record { sign = r.sign; size = r.size; is = add-over s t m n e d a b h k ∙ r.is; of = r.of ∙ ap₂ ◌+ℤ◌ h.1 k.1 }

pub add_represents : {x y : Float} {a b : ℤ} → Represents x a → Represents y b → nat_abs (a +ℤ b) ≤ 2 ^ 24 → Represents (Ieee.add binary32 x y) (a +ℤ b)
add_represents h k small = rounded_represents (added _ _ _ _ h.equals k.equals) small

-- ---- a whole number as a float
pub of_int_represents : (z : ℤ) → nat_abs z ≤ 2 ^ 24 → Represents (Ieee.of_int binary32 z) z
unfolding Ieee.of_int
of_int_represents (pos n) h = rounded_represents (record { sign = false; size = n; is = refl; of = refl }) h
of_int_represents (negsuc n) h = rounded_represents (record { sign = true; size = suc n; is = refl; of = refl }) h

-- ---- counts, as floats: never minus zero, so that each is exactly one float
pub float_is : (n : ℕ) → float n ≡ round binary32 false n 1
unfolding Ieee.of_int
float_is n = refl

float_value : (n : ℕ) → n ≤ 2 ^ 24 → HasValue (float n) false n 1
float_value n h = rw (float_is n) (round_whole binary32 false n h)

pub float_represents : (n : ℕ) → n ≤ 2 ^ 24 → Represents (float n) (pos n)
float_represents n h = of_int_represents (pos n) h

sum-count : (k : ℕ) → 0 < k → (t : Bool) (a b : ℕ) → signed t b ≡ pos b → Ieee.sum binary32 false (a * k) t (b * k) k ≡ round binary32 false (a + b) 1
unfolding Ieee.sum
sum-count k some false a b e = over-one false (a * k + b * k) (a + b) k some (sym (add-mul a b k))
sum-count k some true a zero e =
    let same : a - 0 ≡ a + 0 = omega arith in
    rw (scaled_ltb k some a 0, le-ltb a 0 (omega arith)) (over-one false (a * k - 0 * k) (a + 0) k some (less_over k some 0 a ∙ ap (λ (n : ℕ). n * k) same))
sum-count k some true a (suc b) e = absurd (pos-ne-negsuc (suc b) b (sym e))

add-count : (x y : Float) (a b : ℕ) → HasValue x false a 1 → Equals y (pos b) → Ieee.add binary32 x y ≡ round binary32 false (a + b) 1
add-count nan y a b h k = absurd h
add-count (inf s) y a b h k = absurd h
add-count (fin s m e) nan a b h k = absurd k
add-count (fin s m e) (inf t) a b h k = absurd k
add-count (fin s m e) (fin t n d) a b h k =
    let c = Ieee.down e * Ieee.down d in
    add-over s t m n e d (pos a) (pos b) (value_equals (fin s m e) false a h) k ∙ rw h.0 (sum-count c (mul-pos (down_pos e) (down_pos d)) t a b k.1)

pub float_add : {y : Float} (a b : ℕ) → a ≤ 2 ^ 24 → Represents y (pos b) → Ieee.add binary32 (float a) y ≡ float (a + b)
float_add a b h k = add-count (float a) _ a b (float_value a h) k.equals ∙ sym (float_is (a + b))

sum_less : (k : ℕ) → 0 < k → (a b : ℕ) → b ≤ a → Ieee.sum binary32 false (a * k) true (b * k) k ≡ round binary32 false (a - b) 1
unfolding Ieee.sum
sum_less k some a b l = rw (scaled_ltb k some a b, le-ltb a b l) (over-one false (a * k - b * k) (a - b) k some (less_over k some b a))

sub_fin : (s t : Bool) (m n : ℕ) (e d : ℤ) → Ieee.sub binary32 (fin s m e) (fin t n d) ≡ Ieee.add binary32 (fin s m e) (fin (not t) n d)
unfolding Ieee.sub
sub_fin s t m n e d = refl

sub-count : (x y : Float) (a b : ℕ) → HasValue x false a 1 → HasValue y false b 1 → b ≤ a → Ieee.sub binary32 x y ≡ round binary32 false (a - b) 1
sub-count nan y a b h k l = absurd h
sub-count (inf s) y a b h k l = absurd h
sub-count (fin s m e) nan a b h k l = absurd k
sub-count (fin s m e) (inf t) a b h k l = absurd k
sub-count (fin s m e) (fin t n d) a b h k l =
    let c = Ieee.down e in
    let g = Ieee.down d in
    let x : m * Ieee.up e ≡ a * c = sym (mul-one (m * Ieee.up e)) ∙ h.1 in
    let y : n * Ieee.up d ≡ b * g = sym (mul-one (n * Ieee.up d)) ∙ k.1 in
    sub_fin s t m n e d
    ∙ add_fin s (not t) m n e d
    ∙ rw (h.0, k.0, first-over (m * Ieee.up e) a c g x, second-over (n * Ieee.up d) b c g y) (sum_less (c * g) (mul-pos (down_pos e) (down_pos d)) a b l)

pub float_sub : (a b : ℕ) → a ≤ 2 ^ 24 → b ≤ a → Ieee.sub binary32 (float a) (float b) ≡ float (a - b)
float_sub a b h l = sub-count (float a) (float b) a b (float_value a h) (float_value b (omega arith)) l ∙ sym (float_is (a - b))

pub lt_float : (a b : ℕ) → a ≤ 2 ^ 24 → b ≤ 2 ^ 24 → Ieee.lt (float a) (float b) ≡ ltb a b
lt_float a b h k = lt_represents (float_represents a h) (float_represents b k)

pub le_float : (a b : ℕ) → a ≤ 2 ^ 24 → b ≤ 2 ^ 24 → Ieee.le (float a) (float b) ≡ leb a b
le_float a b h k =
    le_represents (float_represents a h) (float_represents b k)
    ∙ ⊎_elim (λ l. rw (lt-ltb b a l, lt-leb a b l)) (λ l. rw (le-ltb b a l, le-leb a b l)) (lt_or_le b a)

-- ---- the same laws for the number that a small one is
pub zero_represents : Represents (Ieee.of_bits binary32 0) (pos 0)
unfolding Ieee.of_bits
zero_represents = record { equals = (refl, refl) }

pub whole_zero : whole_of (Ieee.of_bits binary32 0) ≡ pos 0
whole_zero = whole_of-is (Ieee.of_bits binary32 0) (pos 0) zero_represents

pub whole_neg : (x : Float) → nat_abs (whole_of x) < 2 ^ 24 → whole_of (Ieee.neg x) ≡ neg_ℤ (whole_of x)
whole_neg x h = whole_of-is _ _ (neg_represents (represents_small x h))

pub whole_lt : (x y : Float) → nat_abs (whole_of x) < 2 ^ 24 → nat_abs (whole_of y) < 2 ^ 24 → Ieee.lt x y ≡ lt_z (whole_of x) (whole_of y)
whole_lt x y h k = lt_represents (represents_small x h) (represents_small y k)

pub whole_negative : (x : Float) → nat_abs (whole_of x) < 2 ^ 24 → Ieee.lt x (Ieee.of_bits binary32 0) ≡ lt_z (whole_of x) (pos 0)
whole_negative x h = lt_represents (represents_small x h) zero_represents

pub whole_float : (n : ℕ) → n ≤ 2 ^ 24 → whole_of (float n) ≡ pos n
whole_float n h = whole_of-is _ _ (float_represents n h)
