-- How large a running sum can be (docs/RULES.md, §4): at most n times the largest reading, whatever that is; and one is that large.
-- Nor can a penalty be larger, or a penalty plus the gap.
use Rattle.std.specs.Prelude.{◌≡◌, refl, ℕ, zero, suc, ◌+◌, ◌-◌, ◌*◌, ◌^◌, ◌≤◌, length, get_or, replicate, ℤ, pos, nat_abs, ◌+ℤ◌}
use Rattle.std.proofs.Common.{ap, sym, ◌∙◌, arith, le_refl, le_trans, mul-add, add-mul, take_at, drop_at, pow_pos}
use Rattle.std.proofs.Math.Path.{subst}
use mathlib.Core.List.Memᴰ
use mathlib.Core.List.{List, [], ◌∷◌, ◌++◌, Memᴰ}
use Rattle.std.proofs.Math.Nat.{two-pow-succ}
use Rattle.std.proofs.lemmas.List.{length-replicate, replicate-append-replicate}
use Rattle.numbers.specs.Sums.{sum}
use Rattle.numbers.specs.LeastLaws.{at_most, upto, at_most_lem, least_two, length_as_sum}
use Rattle.numbers.specs.EntryLaws.{map_same}
use Rattle.words.specs.Word.{transform}
use Rattle.words.specs.Kinds.{all_bits, encoded}
use Rattle.words.specs.TransformLaws.{transform-zeros}
use Rattle.decoding.specs.Readings.{sizes, Within}
use Rattle.decoding.specs.Best.{penalty_of, penalties, least_penalty, gap}
use Rattle.decoding.specs.BestLaws.{two_penalties, next-penalty}
use Rattle.decoding.specs.Quick.{uppers, lower_row, upper_row}
use Rattle.decoding.specs.Walk.{value}
use Rattle.decoding.specs.StepLaws.{entry-sizes, sizes-lower_row, sizes-upper_row, sizes_within, penalty-sizes}
use Rattle.decoding.specs.PathLaws.{value-sizes}
use Rattle.decoding.specs.QuickLaws.{value-upper}

-- a row is cut at h and replaced by its lower row, or by its upper row for the word a
pub data Step : Type 0 where
  to_lower : ℕ → Step
  to_upper : ℕ → List ℕ → Step

-- the running sums that are left of the readings l after some steps
unfoldable pub sums_after : List ℤ → List Step → List ℤ
sums_after l [] = l
sums_after l (to_lower h ∷ s) = sums_after (lower_row h l) s
sums_after l (to_upper h a ∷ s) = sums_after (upper_row h l a) s

sizes-after : (l : List ℤ) (s : List Step) → sizes (sums_after l s) ≤ sizes l
unfolding sums_after
sizes-after l [] = le_refl (sizes l)
sizes-after l (to_lower h ∷ s) = le_trans (sizes-after (lower_row h l) s) (sizes-lower_row h l)
sizes-after l (to_upper h a ∷ s) = le_trans (sizes-after (upper_row h l a) s) (sizes-upper_row h l a)

-- every word's penalty is a sum of sizes of readings, and so is the next penalty, which is the least plus the gap
module _ (m : ℕ) (ks : List ℕ) (l : List ℤ) where
  penalty-entry : (p : ℕ) → Memᴰ p (penalties m ks l) → p ≤ sizes l
  unfolding penalties
  penalty-entry p i =
      let of = Memᴰ.of_map (penalty_of m ks l) (all_bits (sum ks)) i in
      subst (λ (q : ℕ). q ≤ sizes l) of.2 (penalty-sizes l (encoded m ks of.0))

  next-sizes : 1 ≤ sum ks → least_penalty m ks l + gap m ks l ≤ sizes l
  unfolding upto
  next-sizes information =
      let p = penalties m ks l in
      let t = sizes l in
      let two = two_penalties m ks l information in
      let counts : (x : ℕ) → Memᴰ x p → at_most t x ≡ 1 = λ x i. omega (arith, (at_most_lem t x).bit, (at_most_lem t x).on (penalty-entry x i)) in
      let both : 2 ≤ upto t p = rw (map_same (at_most t) (λ x. 1) p counts, length_as_sum p) two in
      rw (← (next-penalty m ks l information)) (((least_two p two).second t).0 both)

module _ (largest : ℕ) (l : List ℤ) (within : Within largest l) where
  pub running_sum_most : (s : List Step) (i : ℕ) → nat_abs (get_or (sums_after l s) i (pos 0)) ≤ length l * largest
  running_sum_most s i = omega (arith, entry-sizes (sums_after l s) i, sizes-after l s, sizes_within largest l within)

  -- the values of the walk among them
  pub value_most : (m : ℕ) (u : List ℕ) → nat_abs (value m l u) ≤ length l * largest
  value_most m u = le_trans (value-sizes m l u) (sizes_within largest l within)

  -- the least penalty plus the gap
  pub gap_most : (m : ℕ) (ks : List ℕ) → 1 ≤ sum ks → least_penalty m ks l + gap m ks l ≤ length l * largest
  gap_most m ks information = le_trans (next-sizes m ks l information) (sizes_within largest l within)

-- ---- the bound is attained: with all readings b, the value at the last index of the zero path is n × b
uppers_equal : (n : ℕ) (x : ℤ) → uppers (replicate n x) (replicate n x) (replicate n 0) ≡ replicate n (x +ℤ x)
uppers_equal zero x = refl
uppers_equal (suc n) x = ap (λ (l : List ℤ). (x +ℤ x) ∷ l) (uppers_equal n x)

pub value_attained : (m b : ℕ) → value m (replicate (2 ^ m) (pos b)) (replicate (2 ^ m - 1) 0) ≡ pos (2 ^ m * b)
unfolding value
value_attained zero b = ap pos (omega arith)
value_attained (suc m) b =
    let n = 2 ^ m in
    let l = replicate n (pos b) in
    let z : List ℕ = replicate n 0 in
    let last : 2 ^ suc m - 1 ≡ n + (n - 1) = omega (arith, two-pow-succ m, pow_pos m) in
    let row : upper_row n (l ++ l) (transform m z) ≡ replicate n (pos (b + b)) =
    rw (transform-zeros m, take_at l l n (length-replicate n (pos b)), drop_at l l n (length-replicate n (pos b))) (uppers_equal n (pos b)) in
    rw (last, two-pow-succ m, ← replicate-append-replicate n n (pos b), ← replicate-append-replicate {A = ℕ} n (n - 1) 0)
    (value-upper m (l ++ l) z (replicate (n - 1) 0) (length-replicate n 0)
    ∙ ap (λ (k : List ℤ). value m k (replicate (n - 1) 0)) row
    ∙ value_attained m (b + b)
    ∙ ap pos (mul-add n b b ∙ sym (add-mul n n b)))
