-- The gap is reached: some change of all readings together by exactly the gap makes a tie, so the bound in GapLaws cannot be raised.
-- It is enough to change one reading, at the first place where the best word and a next one differ.
use Rattle.std.specs.Prelude.{◌≡◌, refl, cond, ℕ, zero, suc, ◌+◌, ◌^◌, ◌≤◌, ◌<◌, length, ℤ, pos, nat_abs, ◌-ℤ◌, neg_ℤ, eqb}
use Rattle.std.proofs.Common.{ap, ap₂, sym, ◌∙◌, arith, suc-ne-zero, eq-eqb, ne_eqb}
use mathlib.Core.List.{List, [], ◌∷◌, List-discrete}
use Rattle.std.proofs.Math.Nat.{suc_inj}
use Rattle.std.proofs.Math.Decide.{ℕ_discrete}
use Rattle.numbers.specs.PartsLaws.{parts, sum_parts, negated}
use Rattle.numbers.specs.Sums.{sum}
use Rattle.words.specs.Bits.{Bits}
use Rattle.words.specs.Kinds.{encoded, InformationBits, Word}
use Rattle.words.proofs.InverseLaws.{word-length, word_bits, taken_encoded}
use Rattle.decoding.specs.Readings.{loss, turn, penalty}
use Rattle.decoding.specs.Best.{penalty_of, gap, best_bits}
use Rattle.decoding.specs.BestLaws.{best_bits_are, best_attains, others_more}
use Rattle.decoding.specs.GapLaws.{drift}
use Rattle.decoding.proofs.GapLaws.{differ_drift, some_next}

-- the readings, with the first at which x and y differ made less by g for x
abbrev leant : ℕ → List ℤ → List ℕ → List ℕ → List ℤ
leant g [] x y = []
leant g (r ∷ l) [] y = r ∷ l
leant g (r ∷ l) (a ∷ x) [] = r ∷ l
leant g (r ∷ l) (a ∷ x) (b ∷ y) = cond (eqb a b) (r ∷ leant g l x y) ((r -ℤ turn a (pos g)) ∷ l)

record Leant (g : ℕ) (l l' : List ℤ) (x y : List ℕ) : Type 0 where
  long : length l' ≡ length l
  drifted : drift l l' ≡ g
  levelled : penalty l' y + penalty l x + g ≡ penalty l' x + penalty l y

drift_self : (l : List ℤ) → drift l l ≡ 0
unfolding drift
drift_self [] = refl
drift_self (r ∷ l) = omega (arith, parts (r -ℤ r), sum_parts r (neg_ℤ r), negated r, drift_self l)

-- at that reading
record LeantOne (g : ℕ) (r s : ℤ) (a b : ℕ) : Type 0 where
  drifted : nat_abs (r -ℤ s) ≡ g
  levelled : loss s b + loss r a + g ≡ loss s a + loss r b

leant-one : (g : ℕ) (r : ℤ) (a b : ℕ) → a < 2 → b < 2 → (a ≡ b → ⊥) → LeantOne g r (r -ℤ turn a (pos g)) a b
leant-one g r zero zero h k z = absurd (z refl)
leant-one g r zero (suc zero) h k z =
    let s = r -ℤ pos g in
    record {
      drifted = omega (arith, parts (r -ℤ s), sum_parts r (neg_ℤ s), negated s, sum_parts r (neg_ℤ (pos g)), negated (pos g));
      levelled = omega (arith, sum_parts r (neg_ℤ (pos g)), negated (pos g));
    }
leant-one g r (suc zero) zero h k z =
    let t = neg_ℤ (pos g) in
    let s = r -ℤ t in
    record {
      drifted = omega (arith, parts (r -ℤ s), sum_parts r (neg_ℤ s), negated s, sum_parts r (neg_ℤ t), negated t, negated (pos g));
      levelled = omega (arith, sum_parts r (neg_ℤ t), negated t, negated (pos g));
    }
leant-one g r (suc zero) (suc zero) h k z = absurd (z refl)
leant-one g r zero (suc (suc b)) h k z = absurd (omega arith)
leant-one g r (suc zero) (suc (suc b)) h k z = absurd (omega arith)
leant-one g r (suc (suc a)) b h k z = absurd (omega arith)

leant-is : (g : ℕ) (l : List ℤ) (x y : List ℕ) → length x ≡ length l → length y ≡ length l → Bits x → Bits y → (x ≡ y → ⊥) → Leant g l (leant g l x y) x y
unfolding penalty drift
leant-is g [] [] [] e f h k z = absurd (z refl)
leant-is g [] (a ∷ x) y e f h k z = absurd (suc-ne-zero (length x) e)
leant-is g [] [] (b ∷ y) e f h k z = absurd (suc-ne-zero (length y) f)
leant-is g (r ∷ l) [] y e f h k z = absurd (suc-ne-zero (length l) (sym e))
leant-is g (r ∷ l) (a ∷ x) [] e f h k z = absurd (suc-ne-zero (length l) (sym f))
leant-is g (r ∷ l) (a ∷ x) (b ∷ y) e f h k z = elim (ℕ_discrete a b) [
  | yes i ↦
      let onward = leant-is g l x y (suc_inj e) (suc_inj f) (λ j. h (suc j)) (λ j. k (suc j)) (λ j. z (ap₂ ◌∷◌ i j)) in
      rw (eq-eqb a b i)
      record {
        long = ap suc onward.long;
        drifted = omega (arith, onward.drifted, parts (r -ℤ r), sum_parts r (neg_ℤ r), negated r);
        levelled = omega (arith, onward.levelled, ap (loss r) i);
      }
  | no i ↦
      let here = leant-one g r a b (h 0) (k 0) i in
      rw (ne_eqb a b i)
      record { long = refl; drifted = omega (arith, here.drifted, drift_self l); levelled = omega (arith, here.levelled) }
]

module _ (m : ℕ) (ks : List ℕ) (f : length ks ≡ 2 ^ m) (kinds : Bits ks) (information : 1 ≤ sum ks) where
  -- some change of the size of the gap makes a tie
  pub gap_reached : (l : List ℤ) → length l ≡ 2 ^ m → (l' : List ℤ) × (length l' ≡ 2 ^ m) × (drift l l' ≡ gap m ks l) × (gap m ks l' ≡ 0)
  gap_reached l e =
      let b = best_bits m ks l in
      let are = best_bits_are m ks l in
      let n = some_next m ks f kinds information l e in
      let x = encoded m ks b in
      let y = encoded m ks n.0 in
      let word : (c : List ℕ) → InformationBits ks c → Word m ks (encoded m ks c) = λ c i.
      record { bits = c; long = i.0; are_bits = i.1; gives = refl } in
      let long : (c : List ℕ) → InformationBits ks c → length (encoded m ks c) ≡ length l = λ c i. word-length m ks (encoded m ks c) f (word c i) ∙ sym e in
      let differ : x ≡ y → ⊥ = λ z.
      let same : b ≡ n.0 =
      cc (taken_encoded m ks b f kinds are.0 are.1, taken_encoded m ks n.0 f kinds n.1.0 n.1.1, z) in
      n.2 (sym same) in
      let g = gap m ks l in
      let l' = leant g l x y in
      let to =
      leant-is g l x y (long b are) (long n.0 n.1) (word_bits m ks x f (word b are)) (word_bits m ks y f (word n.0 n.1)) differ in
      let none : gap m ks l' ≡ 0 =
      elim (List-discrete ℕ_discrete b (best_bits m ks l')) [
        | yes z ↦
            omega (
              arith,
              others_more m ks l' information n.0 n.1 (λ k. n.2 (k ∙ sym z)),
              n.3,
              ap (penalty_of m ks l') z,
              best_attains m ks l,
              best_attains m ks l',
              to.levelled,
            )
        | no z ↦ omega (arith, differ_drift m ks l l' information (sym to.long) z, to.drifted)
      ] in
      (l', to.long ∙ e, to.drifted, none)
