-- The marker is the last bit of the word: a guarded word is a word of the set that ends in 0.
use Rattle.std.specs.Prelude.{◌≡◌, refl, List, [], ◌∷◌, ◌++◌, ℕ, zero, suc, ◌+◌, ◌-◌, ◌^◌, length, get_or, take, drop}
use Rattle.std.proofs.Common.{ap, sym, ◌∙◌, arith, suc-ne-zero, take-suc, take_all, length-take-le, get_or-drop, pow_pos}
use Rattle.std.proofs.Math.Nat.{suc_inj, two-pow-succ}
use Rattle.numbers.specs.Halves.{length-first, length-second, get_or-second}
use Rattle.words.specs.Bits.{Bits, xors}
use Rattle.words.specs.Word.{transform}
use Rattle.words.specs.Kinds.{fill, pick, encoded, InformationBits, Word, all_ones}
use Rattle.words.specs.TransformLaws.{length-xors, length-transform}
use Rattle.words.proofs.FillLaws.{length-fill, pick-fill}
use Rattle.guarded.specs.Guard.{with_marker, last_bit}
use Rattle.guarded.proofs.MarkerLaws.{marker_with, before, kinds_split}

-- the transform leaves the last entry
last-transform : (m : ℕ) (x : List ℕ) → length x ≡ 2 ^ m → get_or (transform m x) (2 ^ m - 1) 0 ≡ get_or x (2 ^ m - 1) 0
unfolding transform
last-transform zero x e = refl
last-transform (suc m) x e =
    let a = take (2 ^ m) x in
    let b = drop (2 ^ m) x in
    let la = length-transform m a (length-first m x e) in
    let lb = length-transform m b (length-second m x e) in
    let last : 2 ^ suc m - 1 ≡ 2 ^ m + (2 ^ m - 1) = omega (arith, two-pow-succ m, pow_pos m) in
    ap (λ (i : ℕ). get_or (xors (transform m a) (transform m b) ++ transform m b) i 0) last
    ∙ get_or-second (xors (transform m a) (transform m b)) (transform m b) (2 ^ m) (length-xors (transform m a) (transform m b) (la ∙ sym lb) ∙ la)
    (2 ^ m - 1) 0
    ∙ last-transform m b (length-second m x e) ∙ get_or-drop (2 ^ m) x (2 ^ m - 1) 0 ∙ ap (λ (i : ℕ). get_or x i 0) (sym last)

pick_snoc : (ks u : List ℕ) (k a : ℕ) → length u ≡ length ks → (k ≡ 0 → ⊥) → pick (ks ++ k ∷ []) (u ++ a ∷ []) ≡ pick ks u ++ a ∷ []
pick_snoc [] [] zero a e f = absurd (f refl)
pick_snoc [] [] (suc k) a e f = refl
pick_snoc [] (x ∷ u) k a e f = absurd (suc-ne-zero (length u) e)
pick_snoc (b ∷ ks) [] k a e f = absurd (suc-ne-zero (length ks) (sym e))
pick_snoc (zero ∷ ks) (x ∷ u) k a e f = pick_snoc ks u k a (suc_inj e) f
pick_snoc (suc b ∷ ks) (x ∷ u) k a e f = ap (λ (l : List ℕ). x ∷ l) (pick_snoc ks u k a (suc_inj e) f)

module _ (m : ℕ) (ks : List ℕ) (e : length ks ≡ 2 ^ m) (h : Bits ks) (w : Word m ks (all_ones m)) (b : List ℕ) (i : InformationBits ks b) where
  -- the row u has the marker at its last index
  row_last : get_or (fill ks b) (2 ^ m - 1) 0 ≡ last_bit b
  row_last =
      let n = 2 ^ m - 1 in
      let u = fill ks b in
      let long : length u ≡ 2 ^ m = length-fill ks b ∙ e in
      let init = take n u in
      let last = get_or u n 0 in
      let first = before m ks e h w in
      let whole : init ++ last ∷ [] ≡ u = sym (take-suc u n 0 (omega (arith, long, pow_pos m))) ∙ take_all (suc n) u (omega (arith, long)) in
      let same : length init ≡ length first = length-take-le n u (omega (arith, long)) ∙ sym (length-take-le n ks (omega (arith, e))) in
      let bits : b ≡ with_marker last (pick first init) =
      sym (pick-fill ks b h i.0) ∙ ap (pick ks) (sym whole) ∙ ap (λ (k : List ℕ). pick k (init ++ last ∷ [])) (sym (kinds_split m ks e h w))
      ∙ pick_snoc first init 1 last same (λ z. omega arith) in
      sym (ap last_bit bits ∙ marker_with last (pick first init))

  pub word-last : get_or (encoded m ks b) (2 ^ m - 1) 0 ≡ last_bit b
  word-last = last-transform m (fill ks b) (length-fill ks b ∙ e) ∙ row_last
