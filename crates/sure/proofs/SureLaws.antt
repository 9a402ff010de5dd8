-- A word with the property is the only one of its code, the quick reading's, and the best with a gap above 0; and the textbook rule gives the property.
use Rattle.std.specs.Prelude.{◌≡◌, refl, cond, ℕ, zero, suc, ◌-◌, ◌*◌, ◌^◌, ◌≤◌, ◌<◌, length, get_or, ℤ, pos, negsuc, nat_abs, eqb}
use Rattle.std.proofs.Math.Path.{ap, sym}
use Rattle.std.proofs.Common.{subst, ◌∙◌, suc-le-suc, arith, suc-ne-zero, mul-le-mul_left, le_trans, le_of_lt, zero-lt-suc}
use Rattle.std.proofs.Math.Logic.{⊎_elim}
use mathlib.Core.List.{List, [], ◌∷◌, map, List-discrete}
use Rattle.std.proofs.Math.Nat.{suc_inj, suc-sub-suc}
use Rattle.std.proofs.Math.Decide.{ℕ_discrete}
use Rattle.std.proofs.Math.ListN.{get_or-eq_default}
use Rattle.numbers.specs.Choice.{lt_or_le}
use Rattle.numbers.specs.Sums.{sum}
use Rattle.words.specs.Bits.{Bits}
use Rattle.words.specs.Word.{transform}
use Rattle.words.specs.Kinds.{kinds, fill, pick, encoded, InformationBits, Word}
use Rattle.words.specs.Distance.{distance}
use Rattle.words.proofs.KindLaws.{length-kinds, bits_kinds, kinds_at, kind_frozen, sum_kinds_pos}
use Rattle.words.proofs.FillLaws.{length-fill, bits_fill, frozen_fill, pick-fill}
use Rattle.words.proofs.InverseLaws.{word-length, word_bits, word_row, word_frozen, frozen_word}
use Rattle.words.proofs.DistanceLaws.{distance_least}
use Rattle.decoding.specs.Readings.{penalty}
use Rattle.decoding.specs.Quick.{hard, quick_word, quick_bits}
use Rattle.decoding.specs.Best.{penalty_of, least_penalty, gap, best_bits, best_word}
use Rattle.decoding.specs.BestLaws.{none_less, best_bits_are, best_attains, gap_above}
use Rattle.decoding.specs.QuickLaws.{quick-word}
use Rattle.decoding.specs.TreeLaws.{needed_most}
use Rattle.decoding.specs.AnswerLaws.{answer-found}
use Rattle.sure.specs.Sure.{doubt_at, doubt, Sure, Inside, SurelyRight, FewErrors}
use Rattle.sure.specs.MarginLaws.{Clear}
use Rattle.sure.proofs.MarginLaws.{doubt-penalty, apart_penalty}
use Rattle.sure.specs.QuickSure.{FrozenBelow}
use Rattle.sure.proofs.QuickSure.{quick_right}

-- ---- two words of RM(r,m)
sure_clear : (M r m : ℕ) (l : List ℤ) (c : List ℕ) → length c ≡ 2 ^ m → Sure M r m l c → Clear M (2 ^ (m - r)) l c
sure_clear M r m l c e s = omega (arith, doubt-penalty M l c (s.long ∙ sym e) s.within, s.below)

module _ (M r m : ℕ) (l : List ℤ) (h : r ≤ m) (x y : List ℕ) (v : Word m (kinds r m) x) (w : Word m (kinds r m) y) (s : Sure M r m l x) where
  -- every other word has a larger penalty
  others_more : (x ≡ y → ⊥) → penalty l x < penalty l y
  others_more z =
      let e = length-kinds r m in
      let long_x = word-length m (kinds r m) x e v in
      let long_y = word-length m (kinds r m) y e w in
      let apart =
      apart_penalty M l x y (s.long ∙ sym long_x) (s.long ∙ sym long_y) s.within (word_bits m (kinds r m) x e v) (word_bits m (kinds r m) y e w) in
      omega (arith, sure_clear M r m l x long_x s, apart, mul-le-mul_left M (distance_least r m x y h v w z))

  -- so a word with no larger penalty is the same word
  no_other : penalty l y ≤ penalty l x → x ≡ y
  no_other k = elim (List-discrete ℕ_discrete x y) [ yes e ↦ e | no z ↦ absurd (omega (arith, k, others_more z)) ]

-- ---- a set inside RM(r,m)
module _ (r m : ℕ) (ks : List ℕ) (inside : Inside r m ks) (c : List ℕ) (w : Word m ks c) where
  inside_word : Word m (kinds r m) c
  inside_word =
      let e = inside.long in
      frozen_word m (kinds r m) c (length-kinds r m) (bits_kinds r m) (word-length m ks c e w) (word_bits m ks c e w)
      (λ i z. word_frozen m ks c e w i (inside.frozen i z))

  bits_are : pick ks (transform m c) ≡ w.bits
  bits_are = ap (pick ks) (word_row m ks c inside.long w) ∙ pick-fill ks w.bits inside.are_bits w.long

-- ---- a word of it that has the property
module _ (M r m : ℕ) (ks : List ℕ) (l : List ℤ) (c : List ℕ) (h : r ≤ m) (inside : Inside r m ks) (w : Word m ks c) (s : Sure M r m l c) where
  in_code : Word m (kinds r m) c
  in_code = inside_word r m ks inside c w

  quick_is : quick_word m ks l ≡ c
  quick_is =
      let u = fill ks w.bits in
      let frozen : FrozenBelow (suc r) m ks = λ i k o. inside.frozen i (kinds_at r m i k ∙ kind_frozen r m i (omega arith)) in
      let clear : Clear M (2 ^ (suc m - suc r)) l (transform m u) =
      rw (suc-sub-suc m r, w.gives) (sure_clear M r m l c (word-length m ks c inside.long w) s) in
      quick_right (suc r) m M ks u l s.long (length-fill ks w.bits ∙ inside.long) (bits_fill ks w.bits w.are_bits) s.within
      frozen (frozen_fill ks w.bits) (λ i. clear)
      ∙ w.gives

  -- no other information bits have a word of so little penalty
  bits_only : (b : List ℕ) → InformationBits ks b → penalty_of m ks l b ≤ penalty l c → b ≡ w.bits
  bits_only b i k =
      let x = encoded m ks b in
      let v : Word m ks x = record { bits = b; long = i.0; are_bits = i.1; gives = refl } in
      let same : c ≡ x = no_other M r m l h c x in_code (inside_word r m ks inside x v) s k in
      sym (bits_are r m ks inside x v) ∙ ap (λ (y : List ℕ). pick ks (transform m y)) (sym same) ∙ bits_are r m ks inside c w

  least_most : least_penalty m ks l ≤ penalty l c
  least_most = rw w.gives at (none_less m ks l w.bits (w.long, w.are_bits))

  best_bits-is : best_bits m ks l ≡ w.bits
  best_bits-is = bits_only (best_bits m ks l) (best_bits_are m ks l) (rw (best_attains m ks l) least_most)

  best_is : best_word m ks l ≡ c
  unfolding best_word
  best_is = ap (encoded m ks) best_bits-is ∙ w.gives

  least-is : least_penalty m ks l ≡ penalty l c
  unfolding best_word
  least-is = sym (best_attains m ks l) ∙ ap (penalty l) best_is

  gap_is_above : 0 < sum ks → 0 < gap m ks l
  gap_is_above information = gap_above m ks l information (λ b i k. bits_only b i (omega (arith, k, least_most)) ∙ sym best_bits-is)

  pub surely-right : SurelyRight M r m ks l c w.bits
  unfolding quick_bits
  surely-right =
      record {
        only = λ x v t.
            ⊎_elim
            (λ k. no_other M r m l h x c v in_code t (le_of_lt k))
            (λ k. sym (no_other M r m l h c x in_code v s k))
            (lt_or_le (penalty l c) (penalty l x));
        quick-word = quick_is;
        quick_bits_lem = ap (λ (x : List ℕ). pick ks (transform m x)) quick_is ∙ bits_are r m ks inside c w;
        best_word_lem = best_is;
        best_bits_lem = best_bits-is;
        least_penalty_lem = least-is;
        gap_above = gap_is_above;
        answered = λ information allowed t.
            answer-found m ks l allowed (le_trans (needed_most m ks l inside.are_bits) t) (gap_is_above information)
            ∙ rw (best_bits-is, best_is, least-is);
      }

-- so it is enough to try the quick reading's own word
pub quick_sure : (M r m : ℕ) (ks : List ℕ) (l : List ℤ) → r ≤ m → Inside r m ks → Sure M r m l (quick_word m ks l)
    → SurelyRight M r m ks l (quick_word m ks l) (quick_bits m ks l)
quick_sure M r m ks l h inside s =
    let w = quick-word m ks l inside.long inside.are_bits in
    let right = surely-right M r m ks l (quick_word m ks l) h inside w s in
    subst (SurelyRight M r m ks l (quick_word m ks l)) (sym right.quick_bits_lem) right

-- for RM(r,m) itself, which always has a second word
pub inside_code : (r m : ℕ) → Inside r m (kinds r m)
inside_code r m = record { long = length-kinds r m; are_bits = bits_kinds r m; frozen = λ i z. z }

module _ (M r m : ℕ) (l : List ℤ) (c : List ℕ) (h : r ≤ m) (w : Word m (kinds r m) c) (s : Sure M r m l c) where
  pub surely_right_code : SurelyRight M r m (kinds r m) l c w.bits
  surely_right_code = surely-right M r m (kinds r m) l c h (inside_code r m) w s

  pub gap_above_code : 0 < gap m (kinds r m) l
  gap_above_code = surely_right_code.gap_above (sum_kinds_pos r m)

-- ---- the textbook rule
errors_one : (x : ℤ) (b : ℕ) → nat_abs x ≡ 1 → b < 2 → doubt_at 1 x b ≡ 2 * cond (eqb (hard x) b) 0 1
errors_one (pos n) zero e h = omega arith
errors_one (pos n) (suc zero) e h = omega arith
errors_one (negsuc n) zero e h = omega arith
errors_one (negsuc n) (suc zero) e h = omega arith
errors_one x (suc (suc b)) e h = absurd (omega arith)

doubt_errors : (l : List ℤ) (c : List ℕ) → length l ≡ length c → ((i : ℕ) → i < length l → nat_abs (get_or l i (pos 0)) ≡ 1) → Bits c
    → doubt 1 l c ≡ 2 * distance (map hard l) c
unfolding doubt distance
doubt_errors [] c e h k = refl
doubt_errors (x ∷ l) [] e h k = absurd (suc-ne-zero (length l) e)
doubt_errors (x ∷ l) (b ∷ c) e h k =
    omega (arith, errors_one x b (h 0 (zero-lt-suc (length l))) (k 0), doubt_errors l c (suc_inj e) (λ i j. h (suc i) (suc-le-suc j)) (λ i. k (suc i)))

pub few_errors_sure : (r m : ℕ) (l : List ℤ) (c : List ℕ) → length c ≡ 2 ^ m → Bits c → FewErrors r m l c → Sure 1 r m l c
few_errors_sure r m l c e h f =
    record {
      at_least_one = omega arith;
      within = λ i.
          ⊎_elim
          (λ k. omega (arith, f.size-one i k))
          (λ k. rw (get_or-eq_default l (pos 0) {n = i} (rw f.long k)) (omega arith))
          (lt_or_le i (2 ^ m));
      long = f.long;
      below = omega (arith, f.few, doubt_errors l c (f.long ∙ sym e) (λ i k. f.size-one i (rw f.long at k)) h);
    }

pub few_errors_right : (r m : ℕ) (ks : List ℕ) (l : List ℤ) (c : List ℕ) → r ≤ m → Inside r m ks → (w : Word m ks c) → FewErrors r m l c
    → SurelyRight 1 r m ks l c w.bits
few_errors_right r m ks l c h inside w f =
    let e = inside.long in
    surely-right 1 r m ks l c h inside w (few_errors_sure r m l c (word-length m ks c e w) (word_bits m ks c e w) f)
