-- The words of RM(r,m) are the value tables of the polynomials of degree at most r in m variables.
use Rattle.std.specs.Prelude.{◌≡◌, refl, cond, List, [], ◌∷◌, ◌++◌, ℕ, zero, suc, ◌+◌, ◌-◌, ◌*◌, ◌^◌, ◌≤◌, ◌<◌, length, get_or, take, drop, eqb}
use Rattle.std.proofs.Common.{ap, ap₂, sym, subst, ◌∙◌, ⊎_elim, arith, suc-ne-zero, le_refl, mul-one, mul-zero, length-append, take-append-drop, take_at}
use Rattle.std.proofs.Common.{drop_at, get_or-take, get_or-drop}
use Rattle.std.proofs.Math.Nat.{two-pow-succ}
use Rattle.std.proofs.Math.ListN.{get_or-eq_default}
use Rattle.numbers.specs.Choice.{lt_or_le}
use Rattle.numbers.specs.Sums.{total, tabulate}
use Rattle.numbers.specs.Halves.{length-first, length-second, get_or-first, get_or-second}
use Rattle.words.specs.Bits.{Bits, xors, digit, ones}
use Rattle.words.specs.Word.{transform}
use Rattle.words.specs.Kinds.{kinds, Word}
use Rattle.words.specs.Polynomial.{monomial, value_table, Polynomial}
use Rattle.words.specs.BitLaws.{Alike, second_alike, by_halves_lem, digit-first, digit-second, ones-first, ones-second}
use Rattle.words.specs.TransformLaws.{xors_comm, xors-twice, xors_undo, bits_take, bits_drop, bits_append}
use Rattle.words.specs.TableLaws.{table, table-upper}
use Rattle.words.specs.HalfLaws.{Below}
use Rattle.words.proofs.HalfLaws.{word_below, below_word, below-xors, below_more, below-first, below-second, below_joined}

-- ---- value tables by halves: f = g + x_m·h has g's values where x_m is 0 and those of g + h where it is 1
monomial_alike : (m i j s t : ℕ) → Alike m i s → Alike m j t → monomial m i j ≡ monomial m s t
unfolding monomial
monomial_alike zero i j s t h k = refl
monomial_alike (suc m) i j s t h k =
    ap₂ ◌*◌ (monomial_alike m i j s t (λ p l. h p (omega arith)) (λ p l. k p (omega arith)))
    (ap₂ (λ (a b : ℕ). cond (eqb a 1) b 1) (h m (le_refl (suc m))) (k m (le_refl (suc m))))

monomial-block : (m i j s t a b : ℕ) → Alike m i s → Alike m j t → digit m i ≡ a → digit m j ≡ b
    → monomial (suc m) i j ≡ monomial m s t * cond (eqb a 1) b 1
unfolding monomial
monomial-block m i j s t a b h k e f = rw (monomial_alike m i j s t h k, e, f)

values_halves : (m : ℕ) (c : List ℕ)
    → value_table (suc m) c ≡ value_table m (take (2 ^ m) c) ++ xors (value_table m (take (2 ^ m) c)) (value_table m (drop (2 ^ m) c))
unfolding value_table
values_halves m c =
    let n = 2 ^ m in
    ap (λ (k : ℕ). table (monomial (suc m)) k c) (two-pow-succ m)
    ∙ table-upper n (monomial (suc m)) (monomial m) c
    (λ i j k l. monomial-block m i j i j 0 0 (λ p q. refl) (λ p q. refl) (digit-first m i k) (digit-first m j l) ∙ mul-one _)
    (λ i j k l. monomial-block m (n + i) j i j 1 0 (second_alike m i) (λ p q. refl) (digit-second m i k) (digit-first m j l) ∙ mul-zero _)
    (λ i j k l. monomial-block m i (n + j) i j 0 1 (λ p q. refl) (second_alike m j) (digit-first m i k) (digit-second m j l) ∙ mul-one _)
    (λ i j k l. monomial-block m (n + i) (n + j) i j 1 1 (second_alike m i) (second_alike m j) (digit-second m i k) (digit-second m j l) ∙ mul-one _)

-- ---- polynomials of degree below d, as in HalfLaws: d = r + 1
record OfDegree (d m : ℕ) (x : List ℕ) : Type 0 where
  coefficients : List ℕ
  long : length coefficients ≡ 2 ^ m
  are_bits : Bits coefficients
  degree : (i : ℕ) → i < 2 ^ m → d ≤ ones m i → get_or coefficients i 0 ≡ 0
  table_is : value_table m coefficients ≡ x

values_one : (c : List ℕ) → length c ≡ 1 → Bits c → value_table 0 c ≡ c
unfolding value_table total tabulate monomial
values_one [] e h = absurd (suc-ne-zero 0 (sym e))
values_one (a ∷ []) e h = ap (λ (b : ℕ). b ∷ []) (omega (arith, h 0))
values_one (a ∷ b ∷ c) e h = absurd (omega arith)

-- ---- from polynomials to words
joined : (d m : ℕ) (a b : List ℕ) → Below d m a → Below (d - 1) m b → Below d (suc m) (a ++ xors a b)
joined d m a b g h =
    let e : length b ≡ length a = h.long ∙ sym g.long in
    subst (λ (l : List ℕ). Below d (suc m) (l ++ xors a b)) (ap (xors b) (xors_comm a b) ∙ xors_undo b a e g.are_bits)
    (below_joined d m b (xors a b) h (below-xors d m a b g (below_more (d - 1) d m b (omega arith) h)))

degree_below : (d m : ℕ) (x : List ℕ) → OfDegree d m x → Below d m x
unfolding ones transform
degree_below d zero x p =
    subst (Below d 0) (sym (values_one p.coefficients p.long p.are_bits) ∙ p.table_is)
    (record { long = p.long; are_bits = p.are_bits; frozen = λ i h k. p.degree i h (omega arith) })
degree_below d (suc m) x p =
    let c = p.coefficients in
    let n = 2 ^ m in
    let g = degree_below d m (value_table m (take n c)) (record {
      coefficients = take n c;
      long = length-first m c p.long;
      are_bits = bits_take n c p.are_bits;
      degree = λ i h k. get_or-take n c i 0 h ∙ p.degree i (omega (arith, two-pow-succ m)) (omega (arith, ones-first m i h));
      table_is = refl;
    }) in
    let h = degree_below (d - 1) m (value_table m (drop n c)) (record {
      coefficients = drop n c;
      long = length-second m c p.long;
      are_bits = bits_drop n c p.are_bits;
      degree = λ i h k. get_or-drop n c i 0 ∙ p.degree (n + i) (omega (arith, two-pow-succ m)) (omega (arith, ones-second m i h));
      table_is = refl;
    }) in
    subst (Below d (suc m)) (sym (values_halves m c) ∙ p.table_is) (joined d m (value_table m (take n c)) (value_table m (drop n c)) g h)

-- ---- and back
below_degree : (d m : ℕ) (x : List ℕ) → Below d m x → OfDegree d m x
unfolding ones transform
below_degree d zero x b = record {
  coefficients = x;
  long = b.long;
  are_bits = b.are_bits;
  degree = λ i h k. b.frozen i h (omega arith);
  table_is = values_one x b.long b.are_bits;
}
below_degree d (suc m) x b =
    let n = 2 ^ m in
    let x1 = take n x in
    let x2 = drop n x in
    let s = xors x1 x2 in
    let e : length x1 ≡ length x2 = length-first m x b.long ∙ sym (length-second m x b.long) in
    let hs = below-first d m x b in
    let h2 = below-second d m x b in
    let h1 : Below d m x1 =
    subst (Below d m) (xors-twice x1 x2 e (bits_take n x b.are_bits)) (below-xors d m s x2 (below_more (d - 1) d m s (omega arith) hs) h2) in
    let g = below_degree d m x1 h1 in
    let h = below_degree (d - 1) m s hs in
    let c1 = g.coefficients in
    let c2 = h.coefficients in
    record {
      coefficients = c1 ++ c2;
      long = length-append c1 c2 ∙ omega (arith, g.long, h.long, two-pow-succ m);
      are_bits = bits_append c1 c2 g.are_bits h.are_bits;
      degree = by_halves_lem (λ (i : ℕ). d ≤ ones (suc m) i → get_or (c1 ++ c2) i 0 ≡ 0) m
          (λ i l k. get_or-first c1 c2 n g.long i 0 l ∙ g.degree i l (omega (arith, ones-first m i l)))
          (λ i l k. get_or-second c1 c2 n g.long i 0 ∙ h.degree i l (omega (arith, ones-second m i l)));
      table_is = rw (
        values_halves m (c1 ++ c2),
        take_at c1 c2 n g.long,
        drop_at c1 c2 n g.long,
        g.table_is,
        h.table_is,
        xors_undo x1 x2 e h2.are_bits,
      )
          (take-append-drop n x);
    }

-- ---- the theorem
pub word_polynomial : (r m : ℕ) (x : List ℕ) → Word m (kinds r m) x → Polynomial r m x
word_polynomial r m x w =
    let p = below_degree (suc r) m x (word_below r m x w) in
    let c = p.coefficients in
    record {
      coefficients = c;
      long = p.long;
      are_bits = p.are_bits;
      degree = λ i h.
          ⊎_elim (λ l. p.degree i l h) (λ l. get_or-eq_default c 0 {n = i} (omega (arith, p.long))) (lt_or_le i (2 ^ m));
      table = p.table_is;
    }

pub polynomial_word : (r m : ℕ) (x : List ℕ) → Polynomial r m x → Word m (kinds r m) x
polynomial_word r m x p =
    below_word r m x
    (degree_below (suc r) m x
    (record { coefficients = p.coefficients; long = p.long; are_bits = p.are_bits; degree = λ i l h. p.degree i h; table_is = p.table }))
