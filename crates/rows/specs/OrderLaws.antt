-- The lesser and the greater by a test, and the combining step for the lower half by the order of the two alone.
use Rattle.std.specs.Prelude.{◌≡◌, refl, true, false, ℕ, zero, suc, ◌^◌, ◌<◌, min, max, ℤ, pos, negsuc, nat_abs, ◌-ℤ◌, neg_ℤ, ltb}
use Rattle.std.proofs.Common.{SFits, w32, ap, ap₂, ◌∙◌, true≢false, arith, ltb-true, ltb-false}
use Rattle.std.proofs.lemmas.Bool.{false≢true}
use Rattle.std.proofs.Math.IntN.{+ℤ_idl}
use Rattle.std.specs.Int.{int_min, int_max}
use Rattle.std.specs.Int.Signed.{lt_z}
use Rattle.numbers.specs.Choice.{cond_by}
use Rattle.numbers.specs.PartsLaws.{parts, sum_parts, negated, fits_size}
use Rattle.decoding.specs.Quick.{lower}
use Rattle.rows.specs.Order.{lesser, greater}

-- ---- as code tests them
pub lesser-first : (x y : ℤ) → lt_z x y ≡ true → x ≡ lesser x y
lesser-first (pos x) (pos y) e = ap pos (omega (arith, ltb-true x y e))
lesser-first (pos x) (negsuc y) e = absurd (false≢true e)
lesser-first (negsuc x) (pos y) e = refl
lesser-first (negsuc x) (negsuc y) e = ap negsuc (omega (arith, ltb-true y x e))

pub lesser-second : (x y : ℤ) → lt_z x y ≡ false → y ≡ lesser x y
lesser-second (pos x) (pos y) e = ap pos (omega (arith, ltb-false x y e))
lesser-second (pos x) (negsuc y) e = refl
lesser-second (negsuc x) (pos y) e = absurd (true≢false e)
lesser-second (negsuc x) (negsuc y) e = ap negsuc (omega (arith, ltb-false y x e))

pub greater-second : (x y : ℤ) → lt_z x y ≡ true → y ≡ greater x y
greater-second (pos x) (pos y) e = ap pos (omega (arith, ltb-true x y e))
greater-second (pos x) (negsuc y) e = absurd (false≢true e)
greater-second (negsuc x) (pos y) e = refl
greater-second (negsuc x) (negsuc y) e = ap negsuc (omega (arith, ltb-true y x e))

pub greater-first : (x y : ℤ) → lt_z x y ≡ false → x ≡ greater x y
greater-first (pos x) (pos y) e = ap pos (omega (arith, ltb-false x y e))
greater-first (pos x) (negsuc y) e = refl
greater-first (negsuc x) (pos y) e = absurd (true≢false e)
greater-first (negsuc x) (negsuc y) e = ap negsuc (omega (arith, ltb-false y x e))

-- ---- sizes
pub size-lesser : (x y : ℤ) (n : ℕ) → nat_abs x < n → nat_abs y < n → nat_abs (lesser x y) < n
size-lesser (pos x) (pos y) n h k = omega arith
size-lesser (pos x) (negsuc y) n h k = k
size-lesser (negsuc x) (pos y) n h k = h
size-lesser (negsuc x) (negsuc y) n h k = omega arith

pub size-greater : (x y : ℤ) (n : ℕ) → nat_abs x < n → nat_abs y < n → nat_abs (greater x y) < n
size-greater (pos x) (pos y) n h k = omega arith
size-greater (pos x) (negsuc y) n h k = h
size-greater (negsuc x) (pos y) n h k = k
size-greater (negsuc x) (negsuc y) n h k = omega arith

pub size-turned : (z : ℤ) (n : ℕ) → nat_abs z < n → nat_abs (pos 0 -ℤ z) < n
size-turned z n h = omega (arith, parts z, parts (pos 0 -ℤ z), negated z, sum_parts (pos 0) (neg_ℤ z))

-- ---- the lower step
above_turned : (x y : ℕ) → greater (pos x) (neg_ℤ (pos y)) ≡ pos x
above_turned x zero = ap pos (omega arith)
above_turned x (suc y) = refl

below-turned : (x y : ℕ) → greater (negsuc y) (neg_ℤ (pos x)) ≡ neg_ℤ (pos (min x (suc y)))
below-turned zero y =
    let e : 0 ≡ min 0 (suc y) = omega arith in
    ap (λ (n : ℕ). neg_ℤ (pos n)) e
below-turned (suc x) y =
    let e : suc (min y x) ≡ min (suc x) (suc y) = omega arith in
    ap (λ (n : ℕ). neg_ℤ (pos n)) e

pub lower_by_order : (x y : ℤ) → greater (lesser x y) (pos 0 -ℤ greater x y) ≡ lower x y
lower_by_order (pos x) (pos y) = ap (greater (pos (min x y))) (+ℤ_idl (neg_ℤ (pos (max x y)))) ∙ above_turned (min x y) (max x y)
lower_by_order (pos x) (negsuc y) = ap (greater (negsuc y)) (+ℤ_idl (neg_ℤ (pos x))) ∙ below-turned x y
lower_by_order (negsuc x) (pos y) =
    let e : min y (suc x) ≡ min (suc x) y = omega arith in
    ap (greater (negsuc x)) (+ℤ_idl (neg_ℤ (pos y))) ∙ below-turned y x ∙ ap (λ (n : ℕ). neg_ℤ (pos n)) e
lower_by_order (negsuc x) (negsuc y) =
    let e : suc (min x y) ≡ min (suc x) (suc y) = omega arith in
    ap (greater (negsuc (max x y))) (+ℤ_idl (pos (suc (min x y)))) ∙ ap pos e

-- ---- as the library's words for them have it
min_lesser : (x y : ℤ) → int_min x y ≡ lesser x y
min_lesser (pos x) (pos y) =
    cond_by (λ (z : ℤ). z ≡ pos (min x y)) (ltb y x) (pos y) (pos x)
    (λ e. ap pos (omega (arith, ltb-true y x e))) (λ e. ap pos (omega (arith, ltb-false y x e)))
min_lesser (pos x) (negsuc y) = refl
min_lesser (negsuc x) (pos y) = refl
min_lesser (negsuc x) (negsuc y) =
    cond_by (λ (z : ℤ). z ≡ negsuc (max x y)) (ltb x y) (negsuc y) (negsuc x)
    (λ e. ap negsuc (omega (arith, ltb-true x y e))) (λ e. ap negsuc (omega (arith, ltb-false x y e)))

max_greater : (x y : ℤ) → int_max x y ≡ greater x y
max_greater (pos x) (pos y) =
    cond_by (λ (z : ℤ). z ≡ pos (max x y)) (ltb y x) (pos x) (pos y)
    (λ e. ap pos (omega (arith, ltb-true y x e))) (λ e. ap pos (omega (arith, ltb-false y x e)))
max_greater (pos x) (negsuc y) = refl
max_greater (negsuc x) (pos y) = refl
max_greater (negsuc x) (negsuc y) =
    cond_by (λ (z : ℤ). z ≡ negsuc (min x y)) (ltb x y) (negsuc x) (negsuc y)
    (λ e. ap negsuc (omega (arith, ltb-true x y e))) (λ e. ap negsuc (omega (arith, ltb-false x y e)))

pub lower_by_max : (x y : ℤ) → int_max (int_min x y) (pos 0 -ℤ int_max x y) ≡ lower x y
lower_by_max x y =
    max_greater (int_min x y) (pos 0 -ℤ int_max x y)
    ∙ ap₂ greater (min_lesser x y) (ap (λ (z : ℤ). pos 0 -ℤ z) (max_greater x y)) ∙ lower_by_order x y

pub turned-fits : (x y : ℤ) → nat_abs x < 2 ^ 31 → nat_abs y < 2 ^ 31 → SFits w32 (pos 0 -ℤ int_max x y)
turned-fits x y h k =
    rw (max_greater x y) (fits_size _ (size-turned (greater x y) (2 ^ 31) (size-greater x y (2 ^ 31) h k)))
