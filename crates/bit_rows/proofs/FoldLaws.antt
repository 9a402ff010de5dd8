-- The loop of `fold`.
use Rattle.std.specs.Prelude.{◌≡◌, refl, List, [], ◌∷◌, ◌++◌, ℕ, ◌+◌, ◌-◌, ◌%◌, ◌≤◌, ◌<◌, length, get_or, set, take, drop}
use Rattle.std.proofs.Common.{ap, sym, ◌∙◌, append-nil, append_assoc, arith, add-one, length-drop, take-append-drop, drop_of_length-le, get_or-drop}
use Rattle.std.proofs.Common.{get_or-take, take_all, take-take, drop-drop, length-take-le}
use Rattle.numbers.specs.Front.{front, front-suc, front-after}
use Rattle.numbers.specs.Halves.{drop-take}
use Rattle.words.specs.Bits.{xors}
use Rattle.words.specs.TransformLaws.{length-xors, get_or-xors}
use Rattle.bit_rows.specs.Fold.{folded}
use Rattle.bit_rows.specs.Layers.{on_front}

-- ---- after j passes the word is `front d (sums d h) j`
abbrev pub sums : List ℕ → ℕ → List ℕ
sums d h = xors (take h d) (take h (drop h d))

-- no more of a second row is added than the first one has
xors-take : (x y : List ℕ) → xors x y ≡ xors x (take (length x) y)
xors-take [] y = refl
xors-take (a ∷ x) [] = refl
xors-take (a ∷ x) (b ∷ y) = ap (λ (l : List ℕ). (a + b) % 2 ∷ l) (xors-take x y)

module _ (d : List ℕ) (h : ℕ) (e : h + h ≤ length d) where
  length-first : length (take h d) ≡ h
  length-first = length-take-le h d (omega arith)

  equal_parts : length (take h d) ≡ length (take h (drop h d))
  equal_parts = length-first ∙ sym (length-take-le h (drop h d) (simp length-drop (omega arith)))

  length-sums : length (sums d h) ≡ h
  length-sums = length-xors (take h d) (take h (drop h d)) equal_parts ∙ length-first

  module _ (s : List ℕ) (j : ℕ) (more : j < h) (is : s ≡ front d (sums d h) j) where
    -- what a pass reads is unchanged
    pub unread : (i : ℕ) → j ≤ i → get_or s i 0 ≡ get_or d i 0
    unread i k = rw is (front-after d (sums d h) j i 0 (omega arith) (omega (arith, length-sums)) k)

    -- what a pass stores
    pub pass : set s j ((get_or s j 0 + get_or s (h + j) 0) % 2) ≡ front d (sums d h) (j + 1)
    pass =
        let entry = get_or-xors (take h d) (take h (drop h d)) j equal_parts in
        let v : (get_or s j 0 + get_or s (h + j) 0) % 2 ≡ get_or (sums d h) j 0 =
        rw (
          unread j (omega arith),
          unread (h + j) (omega arith),
          entry,
          get_or-take h d j 0 more,
          get_or-take h (drop h d) j 0 more,
          get_or-drop h d j 0,
        ) in
        rw (add-one, v, is) (front-suc d (sums d h) j 0 (omega arith) (omega (arith, length-sums)))

  folded-sums : folded h d ≡ sums d h ++ drop h d
  folded-sums =
      ap (λ (l : List ℕ). l ++ drop h d)
      (xors-take (take h d) (drop h d) ∙ ap (λ (k : ℕ). xors (take h d) (take k (drop h d))) length-first)

  pub all-passes : front d (sums d h) h ≡ folded h d
  all-passes = ap (λ (l : List ℕ). l ++ drop h d) (take_all h (sums d h) (omega (arith, length-sums))) ∙ sym folded-sums

  -- what comes after the first 2h entries is unchanged
  pub folded-front : folded h d ≡ on_front (folded h) (h + h) d
  folded-front =
      let first : take h (take (h + h) d) ≡ take h d = take-take h (h + h) d (omega arith) in
      let q : h + h - h ≡ h = omega arith in
      let second : drop h (take (h + h) d) ≡ take h (drop h d) = drop-take h (h + h) d ∙ ap (λ (k : ℕ). take k (drop h d)) q in
      let rest : drop h d ≡ take h (drop h d) ++ drop (h + h) d =
      sym (take-append-drop h (drop h d)) ∙ ap (λ (l : List ℕ). take h (drop h d) ++ l) (drop-drop h h d) in
      folded-sums
      ∙ ap (λ (l : List ℕ). sums d h ++ l) rest
      ∙ sym (append_assoc (sums d h) (take h (drop h d)) (drop (h + h) d))
      ∙ rw (first, second) refl

-- a word that ends with its block
pub on_all : (f : List ℕ → List ℕ) (b : ℕ) (x : List ℕ) → length x ≡ b → on_front f b x ≡ f x
on_all f b x e =
    ap (λ (l : List ℕ). f (take b x) ++ l) (drop_of_length-le x {i = b} (omega arith)) ∙ append-nil (f (take b x)) ∙ ap f (take_all b x (omega arith))
