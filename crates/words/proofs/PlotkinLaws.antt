-- The code by halves, as textbooks give it (Plotkin): the words of RM(r+1,m+1) are the rows (a, b) where a + b is a word of RM(r,m) and b one of RM(r+1,m);
-- the words of RM(0,m+1) are those of RM(0,m), written twice.
use Rattle.std.specs.Prelude.{◌≡◌, ◌↔◌, List, ◌++◌, ℕ, suc, ◌-◌, ◌^◌, length, replicate}
use Rattle.std.proofs.Common.{ap, ap₂, sym, subst, ◌∙◌, arith, take_at, drop_at}
use Rattle.words.specs.Bits.{Bits, xors}
use Rattle.words.specs.Kinds.{kinds, Word}
use Rattle.words.specs.TransformLaws.{xors-twice, xors_comm, xors_self, xors-zeros}
use Rattle.words.specs.HalfLaws.{Below}
use Rattle.words.proofs.HalfLaws.{word_below, below_word, below-first, below-second, below_joined, below-zero, below-zeros}

module _ (m : ℕ) (a b : List ℕ) (e : length a ≡ 2 ^ m) (h : Bits a) where
  -- in terms of d = r + 1, as in HalfLaws
  below_plotkin : (d : ℕ) → Below d (suc m) (a ++ b) ↔ (Below (d - 1) m (xors a b) × Below d m b)
  below_plotkin d = (
    λ w. (
      subst (Below (d - 1) m) (ap₂ xors (take_at a b (2 ^ m) e) (drop_at a b (2 ^ m) e)) (below-first d m (a ++ b) w),
      subst (Below d m) (drop_at a b (2 ^ m) e) (below-second d m (a ++ b) w),
    ),
    λ w.
        let same : length a ≡ length b = e ∙ sym w.1.long in
        subst (λ (x : List ℕ). Below d (suc m) (x ++ b)) (xors-twice a b same h) (below_joined d m (xors a b) b w.0 w.1),
  )

  pub plotkin : (r : ℕ) → Word (suc m) (kinds (suc r) (suc m)) (a ++ b) ↔ (Word m (kinds r m) (xors a b) × Word m (kinds (suc r) m) b)
  plotkin r =
      let d : suc (suc r) - 1 ≡ suc r = omega arith in
      let both = below_plotkin (suc (suc r)) in (
        λ w.
            let v = both.0 (word_below (suc r) (suc m) (a ++ b) w) in
            (below_word r m (xors a b) (subst (λ (n : ℕ). Below n m (xors a b)) d v.0), below_word (suc r) m b v.1),
        λ w.
            below_word (suc r) (suc m) (a ++ b)
            (both.1 (subst (λ (n : ℕ). Below n m (xors a b)) (sym d) (word_below r m (xors a b) w.0), word_below (suc r) m b w.1)),
      )

  pub plotkin_zero : Word (suc m) (kinds 0 (suc m)) (a ++ b) ↔ ((a ≡ b) × Word m (kinds 0 m) b)
  plotkin_zero =
      let zeros : List ℕ = replicate (2 ^ m) 0 in (
        λ w.
            let v = (below_plotkin 1).0 (word_below 0 (suc m) (a ++ b) w) in
            let same : length a ≡ length b = e ∙ sym v.1.long in (
              sym (xors-twice a b same h) ∙ ap (λ (x : List ℕ). xors x b) (below-zero m (xors a b) v.0) ∙ xors_comm zeros b
                  ∙ xors-zeros (2 ^ m) b v.1.long v.1.are_bits,
              below_word 0 m b v.1,
            ),
        λ w.
            let v = word_below 0 m b w.1 in
            let sum_is : zeros ≡ xors a b = sym (ap (λ (x : List ℕ). xors x b) w.0 ∙ xors_self b ∙ ap (λ (n : ℕ). replicate n 0) v.long) in
            below_word 0 (suc m) (a ++ b) ((below_plotkin 1).1 (subst (Below 0 m) sum_is (below-zeros 0 m), v)),
      )
