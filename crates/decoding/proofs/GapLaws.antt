-- What the gap means: it is how much all readings together must change before the answer can.
-- Readings that changed by less, Σ |l_j - l'_j| in all, keep the best word and a gap above 0; that the bound cannot be raised is in GapReachedLaws.
use Rattle.std.specs.Prelude.{◌≡◌, refl, cond, ℕ, zero, suc, ◌+◌, ◌^◌, ◌≤◌, ◌<◌, length, ℤ, pos, nat_abs, ◌+ℤ◌, ◌-ℤ◌, neg_ℤ, eqb}
use Rattle.std.proofs.Math.Path.{ap, sym}
use Rattle.std.proofs.Common.{◌∙◌, arith, suc-ne-zero}
use mathlib.Core.List.{List, [], ◌∷◌, List-discrete}
use Rattle.std.proofs.Math.Nat.{suc_inj}
use Rattle.std.proofs.Math.Decide.{ℕ_discrete}
use Rattle.numbers.specs.Parts.{up, down}
use Rattle.numbers.specs.PartsLaws.{parts, sum_parts, negated, by_parts}
use Rattle.numbers.specs.Sums.{sum}
use Rattle.words.specs.Bits.{Bits}
use Rattle.words.specs.Kinds.{kinds, encoded, InformationBits}
use Rattle.words.proofs.KindLaws.{length-kinds, bits_kinds, sum_kinds_pos}
use Rattle.decoding.specs.Readings.{loss, turn, penalty}
use Rattle.decoding.specs.Best.{penalty_of, least_penalty, gap, best_bits, best_word}
use Rattle.decoding.specs.BestLaws.{none_less, best_bits_are, best_attains, others_more}
use Rattle.decoding.proofs.WalkLaws.{best_two}
use Rattle.decoding.specs.GapLaws.{drift, leaning, Undrifted}

-- ---- one word, two words
-- the penalties of two words differ by the readings at the places where the words differ, and by nothing else
lean_one : (r : ℤ) (a b : ℕ) → a < 2 → b < 2
    → loss r b + down (cond (eqb a b) (pos 0) (turn a r)) ≡ loss r a + up (cond (eqb a b) (pos 0) (turn a r))
lean_one r zero zero h k = refl
lean_one r zero (suc zero) h k = omega arith
lean_one r (suc zero) zero h k = omega (arith, negated r)
lean_one r (suc zero) (suc zero) h k = refl
lean_one r zero (suc (suc b)) h k = absurd (omega arith)
lean_one r (suc zero) (suc (suc b)) h k = absurd (omega arith)
lean_one r (suc (suc a)) b h k = absurd (omega arith)

pub penalty_difference : (l : List ℤ) (x y : List ℕ) → length x ≡ length l → length y ≡ length l → Bits x → Bits y
    → pos (penalty l x) +ℤ leaning l x y ≡ pos (penalty l y)
unfolding penalty leaning
penalty_difference [] x y e f h k = refl
penalty_difference (r ∷ l) [] y e f h k = absurd (suc-ne-zero (length l) (sym e))
penalty_difference (r ∷ l) (a ∷ x) [] e f h k = absurd (suc-ne-zero (length l) (sym f))
penalty_difference (r ∷ l) (a ∷ x) (b ∷ y) e f h k =
    let onward = penalty_difference l x y (suc_inj e) (suc_inj f) (λ i. h (suc i)) (λ i. k (suc i)) in
    let here = cond (eqb a b) (pos 0) (turn a r) in
    let rest = leaning l x y in
    by_parts _ _
    (omega (
      arith,
      ap up onward,
      ap down onward,
      sum_parts (pos (penalty l x)) rest,
      sum_parts here rest,
      sum_parts (pos (loss r a + penalty l x)) (here +ℤ rest),
      lean_one r a b (h 0) (k 0),
    ))

size_swapped : (r s : ℤ) → nat_abs (r -ℤ s) ≡ nat_abs (s -ℤ r)
size_swapped r s =
    omega (arith, parts (r -ℤ s), parts (s -ℤ r), sum_parts r (neg_ℤ s), sum_parts s (neg_ℤ r), negated r, negated s)

pub drift_comm : (l l' : List ℤ) → length l ≡ length l' → drift l l' ≡ drift l' l
unfolding drift
drift_comm [] [] e = refl
drift_comm [] (s ∷ l') e = absurd (suc-ne-zero (length l') (sym e))
drift_comm (r ∷ l) [] e = absurd (suc-ne-zero (length l) e)
drift_comm (r ∷ l) (s ∷ l') e = omega (arith, size_swapped r s, drift_comm l l' (suc_inj e))

loss-drift : (b : ℕ) (r s : ℤ) → loss s b ≤ loss r b + nat_abs (r -ℤ s)
loss-drift zero r s = omega (arith, parts (r -ℤ s), parts s, sum_parts r (neg_ℤ s), negated s)
loss-drift (suc b) r s = omega (arith, parts (r -ℤ s), parts s, sum_parts r (neg_ℤ s), negated s)

-- no penalty grows by more than the readings change
pub penalty-drift : (l l' : List ℤ) (x : List ℕ) → length l ≡ length l' → penalty l' x ≤ penalty l x + drift l l'
unfolding penalty drift
penalty-drift [] [] x e = omega arith
penalty-drift [] (s ∷ l') x e = absurd (suc-ne-zero (length l') (sym e))
penalty-drift (r ∷ l) [] x e = absurd (suc-ne-zero (length l) e)
penalty-drift (r ∷ l) (s ∷ l') [] e = omega arith
penalty-drift (r ∷ l) (s ∷ l') (b ∷ x) e = omega (arith, loss-drift b r s, penalty-drift l l' x (suc_inj e))

losses_drift : (a b : ℕ) (r s : ℤ) → loss r a + loss s b ≤ loss s a + loss r b + nat_abs (r -ℤ s)
losses_drift zero zero r s = omega arith
losses_drift zero (suc b) r s = omega (arith, parts (r -ℤ s), sum_parts r (neg_ℤ s), negated s)
losses_drift (suc a) zero r s = omega (arith, parts (r -ℤ s), sum_parts r (neg_ℤ s), negated s)
losses_drift (suc a) (suc b) r s = omega arith

-- nor does the difference of two penalties
pub difference_drift : (l l' : List ℤ) (x y : List ℕ) → length l ≡ length l' → penalty l x + penalty l' y ≤ penalty l' x + penalty l y + drift l l'
unfolding penalty drift
difference_drift [] [] x y e = omega arith
difference_drift [] (s ∷ l') x y e = absurd (suc-ne-zero (length l') (sym e))
difference_drift (r ∷ l) [] x y e = absurd (suc-ne-zero (length l) e)
difference_drift (r ∷ l) (s ∷ l') [] y e = omega (arith, penalty-drift (r ∷ l) (s ∷ l') y e)
difference_drift (r ∷ l) (s ∷ l') (a ∷ x) [] e =
    omega (arith, penalty-drift (s ∷ l') (r ∷ l) (a ∷ x) (sym e), drift_comm (r ∷ l) (s ∷ l') e)
difference_drift (r ∷ l) (s ∷ l') (a ∷ x) (b ∷ y) e = omega (arith, losses_drift a b r s, difference_drift l l' x y (suc_inj e))

-- ---- the best word
-- nor the least penalty
pub least-drift : (m : ℕ) (ks : List ℕ) (l l' : List ℤ) → length l ≡ length l' → least_penalty m ks l' ≤ least_penalty m ks l + drift l l'
least-drift m ks l l' e =
    let b = best_bits m ks l in
    omega (arith, none_less m ks l' b (best_bits_are m ks l), penalty-drift l l' (encoded m ks b) e, best_attains m ks l)

module _ (m : ℕ) (ks : List ℕ) (l l' : List ℤ) (information : 1 ≤ sum ks) (e : length l ≡ length l') where
  -- two rows of readings with different best words are at least as far apart as both their gaps together
  pub differ_drift : (best_bits m ks l ≡ best_bits m ks l' → ⊥) → gap m ks l + gap m ks l' ≤ drift l l'
  differ_drift differ =
      let b = best_bits m ks l in
      let b' = best_bits m ks l' in
      omega (
        arith,
        others_more m ks l information b' (best_bits_are m ks l') (λ z. differ (sym z)),
        others_more m ks l' information b (best_bits_are m ks l) differ,
        best_attains m ks l,
        best_attains m ks l',
        difference_drift l l' (encoded m ks b') (encoded m ks b) e,
      )

-- ---- the gap itself
module _ (m : ℕ) (ks : List ℕ) (f : length ks ≡ 2 ^ m) (kinds : Bits ks) (information : 1 ≤ sum ks) where
  -- some other word has the next penalty
  pub some_next : (l : List ℤ) → length l ≡ 2 ^ m
      → (b : List ℕ) × InformationBits ks b × (b ≡ best_bits m ks l → ⊥) × (penalty_of m ks l b ≤ least_penalty m ks l + gap m ks l)
  some_next l e =
      let two = best_two m ks l e f kinds information in
      elim (List-discrete ℕ_discrete two.second (best_bits m ks l)) [
        | yes z ↦ (two.first, two.first_bits, λ k. two.differ (k ∙ sym z), omega (arith, two.first-has))
        | no z ↦ (two.second, two.second_bits, z, omega (arith, two.second-has))
      ]

  -- the gap changes by no more than the readings do
  pub gap-drift : (l l' : List ℤ) → length l ≡ 2 ^ m → length l' ≡ 2 ^ m → gap m ks l ≤ gap m ks l' + drift l l'
  gap-drift l l' e e' =
      let same : length l ≡ length l' = e ∙ sym e' in
      let b = best_bits m ks l in
      let n = some_next l' e' in
      elim (List-discrete ℕ_discrete b (best_bits m ks l')) [
        | yes z ↦
            omega (
              arith,
              others_more m ks l information n.0 n.1 (λ k. n.2 (k ∙ z)),
              n.3,
              best_attains m ks l,
              ap (penalty_of m ks l') z,
              best_attains m ks l',
              difference_drift l l' (encoded m ks n.0) (encoded m ks b) same,
            )
        | no z ↦ omega (arith, differ_drift m ks l l' information same z)
      ]

module _ (m : ℕ) (ks : List ℕ) (f : length ks ≡ 2 ^ m) (kinds : Bits ks) (information : 1 ≤ sum ks) (l l' : List ℤ) where
  pub undrifted : length l ≡ 2 ^ m → length l' ≡ 2 ^ m → drift l l' < gap m ks l → Undrifted m ks l l'
  unfolding best_word
  undrifted e e' h =
      let bits : best_bits m ks l ≡ best_bits m ks l' =
      elim (List-discrete ℕ_discrete (best_bits m ks l) (best_bits m ks l')) [
        | yes z ↦ z
        | no z ↦ absurd (omega (arith, differ_drift m ks l l' information (e ∙ sym e') z))
      ] in
      record {
        same_word = ap (encoded m ks) (sym bits);
        same_bits = sym bits;
        gap-left = omega (arith, gap-drift m ks f kinds information l l' e e');
      }

pub undrifted_code : (r m : ℕ) (l l' : List ℤ) → length l ≡ 2 ^ m → length l' ≡ 2 ^ m → drift l l' < gap m (kinds r m) l → Undrifted m (kinds r m) l l'
undrifted_code r m l l' = undrifted m (kinds r m) (length-kinds r m) (bits_kinds r m) (sum_kinds_pos r m) l l'
