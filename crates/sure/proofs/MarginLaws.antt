-- The property in terms of penalty and sum of sizes, and what the two combining steps do to these.
use Rattle.std.specs.Prelude.{◌≡◌, cond, List, [], ◌∷◌, ◌++◌, ℕ, zero, suc, ◌+◌, ◌*◌, ◌≤◌, ◌<◌, length, take, drop, ℤ, pos, nat_abs, ◌+ℤ◌, neg_ℤ, eqb}
use Rattle.std.proofs.Common.{ap, sym, ◌∙◌, arith, suc-ne-zero, mul-le-mul_left, take-append-drop, get_or-drop}
use Rattle.std.proofs.Math.Nat.{suc_inj}
use Rattle.numbers.specs.Parts.{up, down}
use Rattle.numbers.specs.PartsLaws.{parts, sum_parts, negated, by_signs, by_parts}
use Rattle.numbers.specs.Halves.{length_first_half, equal_halves}
use Rattle.words.specs.Bits.{Bits, xors}
use Rattle.words.specs.Distance.{distance}
use Rattle.words.specs.TransformLaws.{length-xors}
use Rattle.decoding.specs.Readings.{loss, penalty, correlation, sizes, Within}
use Rattle.decoding.specs.Quick.{lower, upper, lowers, uppers, lower_row, upper_row}
use Rattle.decoding.specs.CorrelationLaws.{correlation_law}
use Rattle.decoding.specs.StepLaws.{size-lower, size-upper, lower-negated, lower_parts}
use Rattle.decoding.specs.StepLaws.{length-lower_row, length-upper_row, halves_penalty, penalty-append, sizes-append}
use Rattle.sure.specs.Sure.{doubt_at, doubt}
use Rattle.sure.specs.MarginLaws.{Clear}

-- ---- the sum, by penalty and sizes
doubt-loss : (M : ℕ) (x : ℤ) (b : ℕ) → nat_abs x ≤ M → doubt_at M x b + nat_abs x ≡ M + 2 * loss x b
doubt-loss M x zero h = omega (arith, parts x)
doubt-loss M x (suc b) h = omega (arith, parts x)

pub doubt-penalty : (M : ℕ) (l : List ℤ) (c : List ℕ) → length l ≡ length c → Within M l → doubt M l c + sizes l ≡ length l * M + 2 * penalty l c
unfolding doubt penalty sizes
doubt-penalty M [] c e h = omega arith
doubt-penalty M (x ∷ l) [] e h = absurd (suc-ne-zero (length l) e)
doubt-penalty M (x ∷ l) (b ∷ c) e h = omega (arith, doubt-loss M x b (h 0), doubt-penalty M l c (suc_inj e) (λ i. h (suc i)))

-- so it is n × M minus the correlation
pub doubt-correlation : (M : ℕ) (l : List ℤ) (c : List ℕ) → length l ≡ length c → Within M l → pos (doubt M l c) +ℤ correlation l c ≡ pos (length l * M)
doubt-correlation M l c e h =
    let law = correlation_law l c e in
    let d = pos (doubt M l c) in
    let k = correlation l c in
    by_parts _ _
    (omega (arith, doubt-penalty M l c e h, ap up law, ap down law, sum_parts k (pos (2 * penalty l c)), sum_parts d k, parts (d +ℤ k)))

-- ---- two words: where they differ, one of them loses the reading
apart_loss : (M : ℕ) (x : ℤ) (a b : ℕ) → nat_abs x ≤ M → a < 2 → b < 2 → nat_abs x + M * cond (eqb a b) 0 1 ≤ loss x a + loss x b + M
apart_loss M x zero zero h i j = omega arith
apart_loss M x zero (suc zero) h i j = omega (arith, parts x)
apart_loss M x (suc zero) zero h i j = omega (arith, parts x)
apart_loss M x (suc zero) (suc zero) h i j = omega arith
apart_loss M x zero (suc (suc b)) h i j = absurd (omega arith)
apart_loss M x (suc zero) (suc (suc b)) h i j = absurd (omega arith)
apart_loss M x (suc (suc a)) b h i j = absurd (omega arith)

pub apart_penalty : (M : ℕ) (l : List ℤ) (x y : List ℕ) → length l ≡ length x → length l ≡ length y → Within M l → Bits x → Bits y
    → sizes l + M * distance x y ≤ penalty l x + penalty l y + length l * M
unfolding penalty sizes distance
apart_penalty M [] [] y e f h i j = omega arith
apart_penalty M [] (a ∷ x) y e f h i j = absurd (suc-ne-zero (length x) (sym e))
apart_penalty M (z ∷ l) [] y e f h i j = absurd (suc-ne-zero (length l) e)
apart_penalty M (z ∷ l) (a ∷ x) [] e f h i j = absurd (suc-ne-zero (length l) f)
apart_penalty M (z ∷ l) (a ∷ x) (b ∷ y) e f h i j =
    omega (arith, apart_loss M z a b (h 0) (i 0) (j 0), apart_penalty M l x y (suc_inj e) (suc_inj f) (λ n. h (suc n)) (λ n. i (suc n)) (λ n. j (suc n)))

-- ---- the combining steps
within_take : (M h : ℕ) (l : List ℤ) → Within M l → Within M (take h l)
within_take M zero l w i = omega arith
within_take M (suc h) [] w i = omega arith
within_take M (suc h) (x ∷ l) w zero = w 0
within_take M (suc h) (x ∷ l) w (suc i) = within_take M h l (λ j. w (suc j)) i

within_drop : (M h : ℕ) (l : List ℤ) → Within M l → Within M (drop h l)
within_drop M h l w i = rw (get_or-drop h l i (pos 0)) (w (h + i))

within_lowers : (M : ℕ) (k l : List ℤ) → Within M k → Within M (lowers k l)
within_lowers M [] l h i = omega arith
within_lowers M (x ∷ k) [] h i = omega arith
within_lowers M (x ∷ k) (y ∷ l) h zero = omega (arith, size-lower x y, h 0)
within_lowers M (x ∷ k) (y ∷ l) h (suc i) = within_lowers M k l (λ j. h (suc j)) i

within_uppers : (M : ℕ) (k l : List ℤ) (a : List ℕ) → Within M k → Within M l → Within (2 * M) (uppers k l a)
within_uppers M [] l a h j i = omega arith
within_uppers M (x ∷ k) [] a h j i = omega arith
within_uppers M (x ∷ k) (y ∷ l) [] h j i = omega arith
within_uppers M (x ∷ k) (y ∷ l) (b ∷ a) h j zero = omega (arith, size-upper x y b, h 0, j 0)
within_uppers M (x ∷ k) (y ∷ l) (b ∷ a) h j (suc i) = within_uppers M k l a (λ n. h (suc n)) (λ n. j (suc n)) i

pub within_lower : (M h : ℕ) (l : List ℤ) → Within M l → Within M (lower_row h l)
within_lower M h l w = within_lowers M (take h l) (drop h l) (within_take M h l w)

pub within_upper : (M h : ℕ) (l : List ℤ) (a : List ℕ) → Within M l → Within (2 * M) (upper_row h l a)
within_upper M h l a w = within_uppers M (take h l) (drop h l) a (within_take M h l w) (within_drop M h l w)

-- the larger of two sizes is at most M, the smaller is left by the lower step
sizes-lowers-least : (M : ℕ) (k l : List ℤ) → length k ≡ length l → Within M k → Within M l → sizes k + sizes l ≤ length k * M + sizes (lowers k l)
unfolding sizes
sizes-lowers-least M [] [] e h i = omega arith
sizes-lowers-least M [] (y ∷ l) e h i = absurd (suc-ne-zero (length l) (sym e))
sizes-lowers-least M (x ∷ k) [] e h i = absurd (suc-ne-zero (length k) e)
sizes-lowers-least M (x ∷ k) (y ∷ l) e h i =
    omega (arith, size-lower x y, h 0, i 0, sizes-lowers-least M k l (suc_inj e) (λ n. h (suc n)) (λ n. i (suc n)))

-- what the lower step loses for a, the upper step with a lacks twice in size
size_added : (x y : ℤ) → nat_abs (y +ℤ x) + 2 * down (lower x y) ≡ nat_abs x + nat_abs y
size_added x y =
    by_signs x y
    (λ i j. omega (arith, lower_parts x y, parts (y +ℤ x), sum_parts y x, (parts x).size, (parts y).size))
    (λ i j. omega (arith, lower_parts x y, parts (y +ℤ x), sum_parts y x, (parts x).size, (parts y).size))
    (λ i j. omega (arith, lower_parts x y, parts (y +ℤ x), sum_parts y x, (parts x).size, (parts y).size))
    (λ i j. omega (arith, lower_parts x y, parts (y +ℤ x), sum_parts y x, (parts x).size, (parts y).size))

size-upper-is : (x y : ℤ) (a : ℕ) → nat_abs (upper x y a) + 2 * loss (lower x y) a ≡ nat_abs x + nat_abs y
size-upper-is x y zero = size_added x y
size-upper-is x y (suc a) =
    omega (arith, size_added (neg_ℤ x) y, ap down (lower-negated x y), negated (lower x y), parts x, parts (neg_ℤ x), negated x)

sizes_uppers_are : (k l : List ℤ) (a : List ℕ) → length k ≡ length l → length k ≡ length a
    → sizes (uppers k l a) + 2 * penalty (lowers k l) a ≡ sizes k + sizes l
unfolding sizes penalty
sizes_uppers_are [] [] a e f = omega arith
sizes_uppers_are [] (y ∷ l) a e f = absurd (suc-ne-zero (length l) (sym e))
sizes_uppers_are (x ∷ k) [] a e f = absurd (suc-ne-zero (length k) e)
sizes_uppers_are (x ∷ k) (y ∷ l) [] e f = absurd (suc-ne-zero (length k) f)
sizes_uppers_are (x ∷ k) (y ∷ l) (b ∷ a) e f = omega (arith, size-upper-is x y b, sizes_uppers_are k l a (suc_inj e) (suc_inj f))

-- if (a + b, b) has it, so has a in the row of the lower step, and b, with M doubled and D halved, in the row of the upper step
module _ (h : ℕ) (l : List ℤ) (a b : List ℕ) (e : length l ≡ h + h) (f : length a ≡ h) (g : length b ≡ h) (ba : Bits a) (bb : Bits b) where
  abbrev k1 : List ℤ
  k1 = take h l

  abbrev k2 : List ℤ
  k2 = drop h l

  first_long : length k1 ≡ h
  first_long = length_first_half h l e

  equal_long : length k1 ≡ length k2
  equal_long = equal_halves h l e

  penalty_halves : penalty (lower_row h l) a + penalty (upper_row h l a) b ≡ penalty l (xors a b ++ b)
  penalty_halves =
      halves_penalty k1 k2 a b equal_long (first_long ∙ sym f) (first_long ∙ sym g) ba bb
      ∙ sym (penalty-append k1 k2 (xors a b) b (first_long ∙ sym (length-xors a b (f ∙ sym g) ∙ f)))
      ∙ ap (λ (z : List ℤ). penalty z (xors a b ++ b)) (take-append-drop h l)

  sizes_halves : sizes k1 + sizes k2 ≡ sizes l
  sizes_halves = sym (sizes-append k1 k2) ∙ ap sizes (take-append-drop h l)

  pub clear_lower : (M D : ℕ) → Within M l → Clear M D l (xors a b ++ b) → Clear M D (lower_row h l) a
  clear_lower M D w c =
      let least = sizes-lowers-least M k1 k2 equal_long (within_take M h l w) (within_drop M h l w) in
      rw (length-lower_row h l e) (omega (arith, penalty_halves, sizes_halves, rw first_long at least, rw e at c))

  pub clear_upper : (M D E : ℕ) → D ≤ 2 * E → Clear M D l (xors a b ++ b) → Clear (2 * M) E (upper_row h l a) b
  clear_upper M D E d c =
      rw (length-upper_row h l e a f)
      (omega (arith, penalty_halves, sizes_halves, sizes_uppers_are k1 k2 a equal_long (first_long ∙ sym f), mul-le-mul_left M d, rw e at c))
