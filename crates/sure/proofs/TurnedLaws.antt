-- Readings negated where a word c has 1: the sum of x + c is that of x, so a word has the property exactly if its sum with c has it for the negated readings.
use Rattle.std.specs.Prelude.{◌≡◌, refl, List, [], ◌∷◌, ℕ, zero, suc, ◌+◌, ◌%◌, ◌^◌, ◌<◌, max, length, ℤ}
use Rattle.std.proofs.Common.{ap₂, sym, ◌∙◌, arith, suc-ne-zero}
use Rattle.std.proofs.Math.Nat.{suc_inj}
use Rattle.std.proofs.Math.IntN.{neg_ℤ-neg_ℤ}
use Rattle.numbers.specs.PartsLaws.{negated}
use Rattle.words.specs.Bits.{Bits, xors}
use Rattle.decoding.specs.Readings.{turn, turns}
use Rattle.decoding.specs.TurnLaws.{size-turn, length-turns, within_turns}
use Rattle.sure.specs.Sure.{largest, doubt_at, doubt, Sure}

pub largest-turned : (c : List ℕ) (l : List ℤ) → length c ≡ length l → largest (turns c l) ≡ largest l
unfolding largest
largest-turned [] [] e = refl
largest-turned [] (x ∷ l) e = absurd (suc-ne-zero (length l) (sym e))
largest-turned (a ∷ c) [] e = refl
largest-turned (a ∷ c) (x ∷ l) e = ap₂ max (size-turn a x) (largest-turned c l (suc_inj e))

doubt_at-turned : (M a b : ℕ) (x : ℤ) → a < 2 → b < 2 → doubt_at M (turn a x) ((b + a) % 2) ≡ doubt_at M x b
doubt_at-turned M zero zero x h k = refl
doubt_at-turned M zero (suc zero) x h k = refl
doubt_at-turned M (suc zero) zero x h k = omega (arith, negated x)
doubt_at-turned M (suc zero) (suc zero) x h k = omega (arith, negated x)
doubt_at-turned M zero (suc (suc b)) x h k = absurd (omega arith)
doubt_at-turned M (suc zero) (suc (suc b)) x h k = absurd (omega arith)
doubt_at-turned M (suc (suc a)) b x h k = absurd (omega arith)

pub doubt-turned : (M : ℕ) (c : List ℕ) (l : List ℤ) (x : List ℕ) → length c ≡ length l → length x ≡ length l → Bits c → Bits x
    → doubt M (turns c l) (xors x c) ≡ doubt M l x
unfolding doubt
doubt-turned M [] [] x e f h k = refl
doubt-turned M [] (r ∷ l) x e f h k = absurd (suc-ne-zero (length l) (sym e))
doubt-turned M (a ∷ c) [] x e f h k = absurd (suc-ne-zero (length c) e)
doubt-turned M (a ∷ c) (r ∷ l) [] e f h k = absurd (suc-ne-zero (length l) (sym f))
doubt-turned M (a ∷ c) (r ∷ l) (b ∷ x) e f h k =
    ap₂ ◌+◌ (doubt_at-turned M a b r (h 0) (k 0)) (doubt-turned M c l x (suc_inj e) (suc_inj f) (λ i. h (suc i)) (λ i. k (suc i)))

pub sure_turned : (M r m : ℕ) (l : List ℤ) (x c : List ℕ) → length x ≡ 2 ^ m → length c ≡ 2 ^ m → Bits x → Bits c
    → Sure M r m l x → Sure M r m (turns c l) (xors x c)
sure_turned M r m l x c e f h k s =
    let same = f ∙ sym s.long in
    record {
      at_least_one = s.at_least_one;
      within = within_turns M c l s.within;
      long = length-turns c l same ∙ s.long;
      below = omega (arith, s.below, doubt-turned M c l x same (e ∙ sym s.long) k h);
    }

-- negating twice by the same word changes nothing
pub turns-twice : (c : List ℕ) (l : List ℤ) → length c ≡ length l → turns c (turns c l) ≡ l
turns-twice [] [] e = refl
turns-twice [] (x ∷ l) e = absurd (suc-ne-zero (length l) (sym e))
turns-twice (a ∷ c) [] e = refl
turns-twice (zero ∷ c) (x ∷ l) e = ap₂ ◌∷◌ refl (turns-twice c l (suc_inj e))
turns-twice (suc a ∷ c) (x ∷ l) e = ap₂ ◌∷◌ (neg_ℤ-neg_ℤ x) (turns-twice c l (suc_inj e))
