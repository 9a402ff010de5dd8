-- Laws of the two combining steps and of the rows they make: sizes, signs, lengths, entries, penalties.
-- The sum of sizes never grows by a step, so one bound serves all rows.
use Rattle.std.specs.Prelude.{◌≡◌, refl, List, [], ◌∷◌, ◌++◌, ℕ, zero, suc, ◌+◌, ◌*◌, ◌^◌, ◌%◌, ◌≤◌, ◌<◌, min, length, get_or, take, drop, ℤ, pos, negsuc}
use Rattle.std.specs.Prelude.{nat_abs, ◌+ℤ◌, ◌-ℤ◌, neg_ℤ}
use Rattle.std.proofs.Common.{ap, ap₂, sym, ◌∙◌, zero-le, arith, suc-ne-zero, not-suc-le-zero, le_of_suc-le-suc, take-append-drop, get_or-take, get_or-drop}
use Rattle.std.proofs.Math.Nat.{suc_inj, min_comm, zero-min, two-pow-succ}
use Rattle.std.proofs.Math.IntN.{neg_ℤ-neg_ℤ}
use Rattle.numbers.specs.Parts.{up, down}
use Rattle.numbers.specs.Halves.{length_first_half, equal_halves}
use Rattle.numbers.specs.PartsLaws.{parts, sum_parts, negated, by_signs}
use Rattle.words.specs.Bits.{Bits, xors}
use Rattle.decoding.specs.Readings.{loss, penalty, sizes, Within}
use Rattle.decoding.specs.Quick.{lower, upper, lowers, uppers, lower_row, upper_row}

-- ---- one pair of readings
size-negated : (n : ℕ) → nat_abs (neg_ℤ (pos n)) ≡ n
size-negated zero = refl
size-negated (suc n) = refl

pub size-lower : (x y : ℤ) → nat_abs (lower x y) ≡ min (nat_abs x) (nat_abs y)
size-lower (pos x) (pos y) = refl
size-lower (pos x) (negsuc y) = size-negated (min x (suc y))
size-lower (negsuc x) (pos y) = size-negated (min (suc x) y)
size-lower (negsuc x) (negsuc y) = refl

pub lower_comm : (x y : ℤ) → lower x y ≡ lower y x
lower_comm (pos x) (pos y) = ap pos (min_comm x y)
lower_comm (pos x) (negsuc y) = ap (λ (n : ℕ). neg_ℤ (pos n)) (min_comm x (suc y))
lower_comm (negsuc x) (pos y) = ap (λ (n : ℕ). neg_ℤ (pos n)) (min_comm (suc x) y)
lower_comm (negsuc x) (negsuc y) = ap pos (min_comm (suc x) (suc y))

pub lower-negated : (x y : ℤ) → lower (neg_ℤ x) y ≡ neg_ℤ (lower x y)
lower-negated (pos zero) (pos y) = rw zero-min
lower-negated (pos zero) (negsuc y) = rw zero-min
lower-negated (pos (suc x)) (pos y) = refl
lower-negated (pos (suc x)) (negsuc y) = sym (neg_ℤ-neg_ℤ _)
lower-negated (negsuc x) (pos y) = sym (neg_ℤ-neg_ℤ _)
lower-negated (negsuc x) (negsuc y) = refl

pub record LowerParts (x y : ℤ) : Type 0 where
  pub up-lower : up (lower x y) ≡ min (up x) (up y) + min (down x) (down y)
  pub down-lower : down (lower x y) ≡ min (up x) (down y) + min (down x) (up y)

pub lower_parts : (x y : ℤ) → LowerParts x y
lower_parts (pos x) (pos y) = record { up-lower = omega arith; down-lower = omega arith }
lower_parts (pos x) (negsuc y) =
    record { up-lower = omega (arith, negated (pos (min x (suc y)))); down-lower = omega (arith, negated (pos (min x (suc y)))) }
lower_parts (negsuc x) (pos y) =
    record { up-lower = omega (arith, negated (pos (min (suc x) y))); down-lower = omega (arith, negated (pos (min (suc x) y))) }
lower_parts (negsuc x) (negsuc y) = record { up-lower = omega arith; down-lower = omega arith }

pub size-upper : (x y : ℤ) (a : ℕ) → nat_abs (upper x y a) ≤ nat_abs x + nat_abs y
size-upper x y zero = omega (arith, parts x, parts y, parts (y +ℤ x), sum_parts y x)
size-upper x y (suc a) = omega (arith, parts x, parts y, parts (y -ℤ x), sum_parts y (neg_ℤ x), negated x)

-- the two steps lose for (a, b) what the pair loses for (a + b, b)
pair_loss_added : (x y : ℤ) (b : ℕ) → b < 2 → loss (lower x y) 0 + loss (y +ℤ x) b ≡ loss x b + loss y b
pair_loss_added x y zero h =
    by_signs x y
    (λ i j. omega (arith, lower_parts x y, parts (y +ℤ x), sum_parts y x)) (λ i j. omega (arith, lower_parts x y, parts (y +ℤ x), sum_parts y x))
    (λ i j. omega (arith, lower_parts x y, parts (y +ℤ x), sum_parts y x)) (λ i j. omega (arith, lower_parts x y, parts (y +ℤ x), sum_parts y x))
pair_loss_added x y (suc zero) h =
    by_signs x y
    (λ i j. omega (arith, lower_parts x y, parts (y +ℤ x), sum_parts y x)) (λ i j. omega (arith, lower_parts x y, parts (y +ℤ x), sum_parts y x))
    (λ i j. omega (arith, lower_parts x y, parts (y +ℤ x), sum_parts y x)) (λ i j. omega (arith, lower_parts x y, parts (y +ℤ x), sum_parts y x))
pair_loss_added x y (suc (suc b)) h = absurd (omega arith)

-- with a = 1 the lower reading counts negated
pub pair-loss : (x y : ℤ) (a b : ℕ) → a < 2 → b < 2 → loss (lower x y) a + loss (upper x y a) b ≡ loss x ((a + b) % 2) + loss y b
pair-loss x y zero zero h k = pair_loss_added x y 0 k
pair-loss x y zero (suc zero) h k = pair_loss_added x y 1 k
pair-loss x y (suc zero) zero h k =
    omega (arith, pair_loss_added (neg_ℤ x) y 0 k, negated x, ap down (lower-negated x y), negated (lower x y))
pair-loss x y (suc zero) (suc zero) h k =
    omega (arith, pair_loss_added (neg_ℤ x) y 1 k, negated x, ap down (lower-negated x y), negated (lower x y))
pair-loss x y zero (suc (suc b)) h k = absurd (omega arith)
pair-loss x y (suc zero) (suc (suc b)) h k = absurd (omega arith)
pair-loss x y (suc (suc a)) b h k = absurd (omega arith)

-- ---- lengths
pub length-lowers : (k l : List ℤ) → length k ≡ length l → length (lowers k l) ≡ length k
length-lowers [] l e = refl
length-lowers (x ∷ k) [] e = absurd (suc-ne-zero (length k) e)
length-lowers (x ∷ k) (y ∷ l) e = ap suc (length-lowers k l (suc_inj e))

pub length-uppers : (k l : List ℤ) (a : List ℕ) → length k ≡ length l → length k ≡ length a → length (uppers k l a) ≡ length k
length-uppers [] l a e f = refl
length-uppers (x ∷ k) [] a e f = absurd (suc-ne-zero (length k) e)
length-uppers (x ∷ k) (y ∷ l) [] e f = absurd (suc-ne-zero (length k) f)
length-uppers (x ∷ k) (y ∷ l) (b ∷ a) e f = ap suc (length-uppers k l a (suc_inj e) (suc_inj f))

-- for a row that is cut in halves
module _ (h : ℕ) (l : List ℤ) (e : length l ≡ h + h) where
  pub length-lower_row : length (lower_row h l) ≡ h
  length-lower_row = length-lowers (take h l) (drop h l) (equal_halves h l e) ∙ length_first_half h l e

  pub length-upper_row : (a : List ℕ) → length a ≡ h → length (upper_row h l a) ≡ h
  length-upper_row a f = length-uppers (take h l) (drop h l) a (equal_halves h l e) (length_first_half h l e ∙ sym f) ∙ length_first_half h l e

-- for a row of 2^(m + 1)
module _ (m : ℕ) (l : List ℤ) (e : length l ≡ 2 ^ suc m) where
  pub long_lower_row : length (lower_row (2 ^ m) l) ≡ 2 ^ m
  long_lower_row = length-lower_row (2 ^ m) l (e ∙ two-pow-succ m)

  pub long_upper_row : (a : List ℕ) → length a ≡ 2 ^ m → length (upper_row (2 ^ m) l a) ≡ 2 ^ m
  long_upper_row a f = length-upper_row (2 ^ m) l (e ∙ two-pow-succ m) a f

-- ---- entries
pub get_or-lowers : (k l : List ℤ) (i : ℕ) → length k ≡ length l → i < length k
    → get_or (lowers k l) i (pos 0) ≡ lower (get_or k i (pos 0)) (get_or l i (pos 0))
get_or-lowers [] l i e h = absurd (not-suc-le-zero h)
get_or-lowers (x ∷ k) [] i e h = absurd (suc-ne-zero (length k) e)
get_or-lowers (x ∷ k) (y ∷ l) zero e h = refl
get_or-lowers (x ∷ k) (y ∷ l) (suc i) e h = get_or-lowers k l i (suc_inj e) (le_of_suc-le-suc h)

pub get_or-uppers : (k l : List ℤ) (a : List ℕ) (i : ℕ) → length k ≡ length l → length k ≡ length a → i < length k
    → get_or (uppers k l a) i (pos 0) ≡ upper (get_or k i (pos 0)) (get_or l i (pos 0)) (get_or a i 0)
get_or-uppers [] l a i e f h = absurd (not-suc-le-zero h)
get_or-uppers (x ∷ k) [] a i e f h = absurd (suc-ne-zero (length k) e)
get_or-uppers (x ∷ k) (y ∷ l) [] i e f h = absurd (suc-ne-zero (length k) f)
get_or-uppers (x ∷ k) (y ∷ l) (b ∷ a) zero e f h = refl
get_or-uppers (x ∷ k) (y ∷ l) (b ∷ a) (suc i) e f h = get_or-uppers k l a i (suc_inj e) (suc_inj f) (le_of_suc-le-suc h)

-- for a row that is cut in halves
module _ (h : ℕ) (l : List ℤ) (e : length l ≡ h + h) (i : ℕ) (below : i < h) where
  pub get_or-lower_row : get_or (lower_row h l) i (pos 0) ≡ lower (get_or l i (pos 0)) (get_or l (h + i) (pos 0))
  get_or-lower_row =
      get_or-lowers (take h l) (drop h l) i (equal_halves h l e) (omega (arith, length_first_half h l e))
      ∙ ap₂ lower (get_or-take h l i (pos 0) below) (get_or-drop h l i (pos 0))

  pub get_or-upper_row : (a : List ℕ) → length a ≡ h → get_or (upper_row h l a) i (pos 0) ≡ upper (get_or l i (pos 0)) (get_or l (h + i) (pos 0)) (get_or a i 0)
  get_or-upper_row a f =
      get_or-uppers (take h l) (drop h l) a i (equal_halves h l e) (length_first_half h l e ∙ sym f) (omega (arith, length_first_half h l e))
      ∙ ap₂ (λ (x y : ℤ). upper x y (get_or a i 0)) (get_or-take h l i (pos 0) below) (get_or-drop h l i (pos 0))

-- ---- penalties
pub penalty-append : (k l : List ℤ) (x y : List ℕ) → length k ≡ length x → penalty (k ++ l) (x ++ y) ≡ penalty k x + penalty l y
unfolding penalty
penalty-append [] l [] y e = omega arith
penalty-append [] l (b ∷ x) y e = absurd (suc-ne-zero (length x) (sym e))
penalty-append (r ∷ k) l [] y e = absurd (suc-ne-zero (length k) e)
penalty-append (r ∷ k) l (b ∷ x) y e = omega (arith, penalty-append k l x y (suc_inj e))

-- the words a and b have in the two rows made of the halves the penalty that (a + b, b) has in the halves
pub halves_penalty : (k l : List ℤ) (a b : List ℕ) → length k ≡ length l → length k ≡ length a → length k ≡ length b → Bits a → Bits b
    → penalty (lowers k l) a + penalty (uppers k l a) b ≡ penalty k (xors a b) + penalty l b
unfolding penalty
halves_penalty [] [] a b e f g h i = refl
halves_penalty [] (y ∷ l) a b e f g h i = absurd (suc-ne-zero (length l) (sym e))
halves_penalty (x ∷ k) [] a b e f g h i = absurd (suc-ne-zero (length k) e)
halves_penalty (x ∷ k) (y ∷ l) [] b e f g h i = absurd (suc-ne-zero (length k) f)
halves_penalty (x ∷ k) (y ∷ l) (c ∷ a) [] e f g h i = absurd (suc-ne-zero (length k) g)
halves_penalty (x ∷ k) (y ∷ l) (c ∷ a) (d ∷ b) e f g h i =
    omega (arith, halves_penalty k l a b (suc_inj e) (suc_inj f) (suc_inj g) (λ j. h (suc j)) (λ j. i (suc j)), pair-loss x y c d (h 0) (i 0))

-- ---- sums of sizes
pub entry-sizes : (l : List ℤ) (i : ℕ) → nat_abs (get_or l i (pos 0)) ≤ sizes l
unfolding sizes
entry-sizes [] i = zero-le
entry-sizes (x ∷ l) zero = omega arith
entry-sizes (x ∷ l) (suc i) = omega (arith, entry-sizes l i)

pub sizes-append : (k l : List ℤ) → sizes (k ++ l) ≡ sizes k + sizes l
unfolding sizes
sizes-append [] l = omega arith
sizes-append (x ∷ k) l = omega (arith, sizes-append k l)

sizes-lowers : (k l : List ℤ) → sizes (lowers k l) ≤ sizes k + sizes l
unfolding sizes
sizes-lowers [] l = zero-le
sizes-lowers (x ∷ k) [] = zero-le
sizes-lowers (x ∷ k) (y ∷ l) = omega (arith, size-lower x y, sizes-lowers k l)

sizes-uppers : (k l : List ℤ) (a : List ℕ) → sizes (uppers k l a) ≤ sizes k + sizes l
unfolding sizes
sizes-uppers [] l a = zero-le
sizes-uppers (x ∷ k) [] a = zero-le
sizes-uppers (x ∷ k) (y ∷ l) [] = zero-le
sizes-uppers (x ∷ k) (y ∷ l) (b ∷ a) = omega (arith, size-upper x y b, sizes-uppers k l a)

sizes_parts : (h : ℕ) (l : List ℤ) → sizes (take h l) + sizes (drop h l) ≡ sizes l
sizes_parts h l = sym (sizes-append (take h l) (drop h l)) ∙ ap sizes (take-append-drop h l)

pub sizes-lower_row : (h : ℕ) (l : List ℤ) → sizes (lower_row h l) ≤ sizes l
sizes-lower_row h l = omega (arith, sizes-lowers (take h l) (drop h l), sizes_parts h l)

pub sizes-upper_row : (h : ℕ) (l : List ℤ) (a : List ℕ) → sizes (upper_row h l a) ≤ sizes l
sizes-upper_row h l a = omega (arith, sizes-uppers (take h l) (drop h l) a, sizes_parts h l)

-- whatever the largest reading is; its two numbers are in quick/specs/RunningSums.antt and record/specs/RunningSums.antt
pub sizes_within : (largest : ℕ) (l : List ℤ) → Within largest l → sizes l ≤ length l * largest
unfolding sizes
sizes_within largest [] h = zero-le
sizes_within largest (x ∷ l) h = omega (arith, h 0, sizes_within largest l (λ i. h (suc i)))

pub loss-size : (x : ℤ) (b : ℕ) → loss x b ≤ nat_abs x
loss-size x zero = omega (arith, parts x)
loss-size x (suc b) = omega (arith, parts x)

pub penalty-sizes : (l : List ℤ) (x : List ℕ) → penalty l x ≤ sizes l
unfolding penalty sizes
penalty-sizes [] x = zero-le
penalty-sizes (r ∷ l) [] = zero-le
penalty-sizes (r ∷ l) (b ∷ x) = omega (arith, loss-size r b, penalty-sizes l x)
