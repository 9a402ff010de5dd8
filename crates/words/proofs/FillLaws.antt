-- Laws of information bits and the rows they fill, for every row of kinds: there and back, linear, and that all bits fill all rows.
use Rattle.std.specs.Prelude.{◌≡◌, refl, List, [], ◌∷◌, ◌++◌, map, ℕ, zero, suc, ◌+◌, ◌^◌, ◌%◌, ◌<◌, length, replicate}
use Rattle.std.proofs.Common.{get_or, ap, ap₂, sym, subst, ◌∙◌, ⊎_elim, arith, suc-ne-zero, zero-add, length-append}
use mathlib.Core.List.Memᴰ
use Rattle.std.proofs.lemmas.Simd.{map-map}
use Rattle.std.proofs.lemmas.List.{map-append, length-map}
use mathlib.Core.List.{Memᴰ, head-eq_of_cons-eq, tail-eq_of_cons-eq}
use Rattle.std.proofs.Math.Nat.{suc_inj, two-pow-succ}
use Rattle.numbers.specs.Sums.{sum}
use Rattle.numbers.specs.EntryLaws.{Distinct, distinct_append, distinct_map}
use Rattle.words.specs.Bits.{Bits, xors}
use Rattle.words.specs.Kinds.{fill, pick, all_bits, Frozen}
use Rattle.words.specs.FillLaws.{rows_of}

-- ---- lengths and entries
pub length-fill : (ks b : List ℕ) → length (fill ks b) ≡ length ks
length-fill [] b = refl
length-fill (zero ∷ ks) b = ap suc (length-fill ks b)
length-fill (suc k ∷ ks) [] = ap suc (length-fill ks [])
length-fill (suc k ∷ ks) (a ∷ b) = ap suc (length-fill ks b)

pub bits_fill : (ks b : List ℕ) → Bits b → Bits (fill ks b)
bits_fill [] b h i = omega arith
bits_fill (zero ∷ ks) b h zero = omega arith
bits_fill (zero ∷ ks) b h (suc i) = bits_fill ks b h i
bits_fill (suc k ∷ ks) [] h zero = omega arith
bits_fill (suc k ∷ ks) [] h (suc i) = bits_fill ks [] h i
bits_fill (suc k ∷ ks) (a ∷ b) h zero = h 0
bits_fill (suc k ∷ ks) (a ∷ b) h (suc i) = bits_fill ks b (λ n. h (suc n)) i

pub frozen_fill : (ks b : List ℕ) → Frozen ks (fill ks b)
frozen_fill [] b i e = refl
frozen_fill (zero ∷ ks) b zero e = refl
frozen_fill (zero ∷ ks) b (suc i) e = frozen_fill ks b i e
frozen_fill (suc k ∷ ks) [] zero e = refl
frozen_fill (suc k ∷ ks) [] (suc i) e = frozen_fill ks [] i e
frozen_fill (suc k ∷ ks) (a ∷ b) zero e = absurd (suc-ne-zero k e)
frozen_fill (suc k ∷ ks) (a ∷ b) (suc i) e = frozen_fill ks b i e

pub length-pick : (ks u : List ℕ) → Bits ks → length u ≡ length ks → length (pick ks u) ≡ sum ks
unfolding sum
length-pick [] u h e = refl
length-pick (k ∷ ks) [] h e = absurd (suc-ne-zero (length ks) (sym e))
length-pick (zero ∷ ks) (a ∷ u) h e = omega (arith, length-pick ks u (λ i. h (suc i)) (suc_inj e))
length-pick (suc zero ∷ ks) (a ∷ u) h e = omega (arith, length-pick ks u (λ i. h (suc i)) (suc_inj e))
length-pick (suc (suc k) ∷ ks) (a ∷ u) h e = absurd (omega (arith, h 0))

pub bits_pick : (ks u : List ℕ) → Bits u → Bits (pick ks u)
bits_pick [] u h i = omega arith
bits_pick (k ∷ ks) [] h i = omega arith
bits_pick (zero ∷ ks) (a ∷ u) h i = bits_pick ks u (λ n. h (suc n)) i
bits_pick (suc k ∷ ks) (a ∷ u) h zero = h 0
bits_pick (suc k ∷ ks) (a ∷ u) h (suc i) = bits_pick ks u (λ n. h (suc n)) i

-- ---- there and back
pub pick-fill : (ks b : List ℕ) → Bits ks → length b ≡ sum ks → pick ks (fill ks b) ≡ b
unfolding sum
pick-fill [] [] h e = refl
pick-fill [] (a ∷ b) h e = absurd (suc-ne-zero (length b) e)
pick-fill (zero ∷ ks) b h e = pick-fill ks b (λ i. h (suc i)) (omega arith)
pick-fill (suc zero ∷ ks) [] h e = absurd (omega arith)
pick-fill (suc zero ∷ ks) (a ∷ b) h e = ap (λ (l : List ℕ). a ∷ l) (pick-fill ks b (λ i. h (suc i)) (omega arith))
pick-fill (suc (suc k) ∷ ks) b h e = absurd (omega (arith, h 0))

pub fill-pick : (ks u : List ℕ) → Frozen ks u → length u ≡ length ks → fill ks (pick ks u) ≡ u
fill-pick [] [] h e = refl
fill-pick [] (a ∷ u) h e = absurd (suc-ne-zero (length u) e)
fill-pick (k ∷ ks) [] h e = absurd (suc-ne-zero (length ks) (sym e))
fill-pick (zero ∷ ks) (a ∷ u) h e = ap₂ ◌∷◌ (sym (h 0 refl)) (fill-pick ks u (λ i. h (suc i)) (suc_inj e))
fill-pick (suc k ∷ ks) (a ∷ u) h e = ap (λ (l : List ℕ). a ∷ l) (fill-pick ks u (λ i. h (suc i)) (suc_inj e))

-- ---- linear
pub fill-xors : (ks a b : List ℕ) → length a ≡ length b → fill ks (xors a b) ≡ xors (fill ks a) (fill ks b)
fill-xors [] a b e = refl
fill-xors (zero ∷ ks) a b e = ap (λ (l : List ℕ). 0 ∷ l) (fill-xors ks a b e)
fill-xors (suc k ∷ ks) [] [] e = ap (λ (l : List ℕ). 0 ∷ l) (fill-xors ks [] [] e)
fill-xors (suc k ∷ ks) [] (y ∷ b) e = absurd (suc-ne-zero (length b) (sym e))
fill-xors (suc k ∷ ks) (x ∷ a) [] e = absurd (suc-ne-zero (length a) e)
fill-xors (suc k ∷ ks) (x ∷ a) (y ∷ b) e = ap (λ (l : List ℕ). (x + y) % 2 ∷ l) (fill-xors ks a b (suc_inj e))

pub fill-zeros : (ks : List ℕ) (n : ℕ) → fill ks (replicate n 0) ≡ replicate (length ks) 0
fill-zeros [] n = refl
fill-zeros (zero ∷ ks) n = ap (λ (l : List ℕ). 0 ∷ l) (fill-zeros ks n)
fill-zeros (suc k ∷ ks) zero = ap (λ (l : List ℕ). 0 ∷ l) (fill-zeros ks 0)
fill-zeros (suc k ∷ ks) (suc n) = ap (λ (l : List ℕ). 0 ∷ l) (fill-zeros ks n)

-- ---- all rows of bits
pub length-all_bits : (k : ℕ) → length (all_bits k) ≡ 2 ^ k
unfolding all_bits
length-all_bits zero = refl
length-all_bits (suc k) = simp (length-append, length-map) (omega (arith, length-all_bits k, two-pow-succ k))

-- every row of k bits is among them
pub in_all_bits : (k : ℕ) (b : List ℕ) → length b ≡ k → Bits b → Memᴰ b (all_bits k)
unfolding all_bits
in_all_bits zero [] e h = Memᴰ.head refl
in_all_bits zero (a ∷ b) e h = absurd (suc-ne-zero (length b) e)
in_all_bits (suc k) [] e h = absurd (suc-ne-zero k (sym e))
in_all_bits (suc k) (zero ∷ b) e h =
    Memᴰ.append_left (map (λ u. 1 ∷ u) (all_bits k)) (Memᴰ.map (λ u. 0 ∷ u) (in_all_bits k b (suc_inj e) (λ i. h (suc i))))
in_all_bits (suc k) (suc zero ∷ b) e h =
    Memᴰ.append_right (map (λ u. 0 ∷ u) (all_bits k)) (Memᴰ.map (λ u. 1 ∷ u) (in_all_bits k b (suc_inj e) (λ i. h (suc i))))
in_all_bits (suc k) (suc (suc a) ∷ b) e h = absurd (omega (arith, h 0))

-- and nothing else
abbrev RowOf : ℕ → List ℕ → Type 0
RowOf k b = (length b ≡ k) × Bits b

row_more : (k a : ℕ) (b : List ℕ) → a < 2 → RowOf k b → RowOf (suc k) (a ∷ b)
row_more k a b h r = (ap suc r.0, λ i. elim i as (λ j. get_or (a ∷ b) j 0 < 2) [ zero ↦ h | suc i ↦ r.1 i ])

row_mapped : (k a : ℕ) (b : List ℕ) (l : List (List ℕ)) → a < 2 → ((u : List ℕ) → Memᴰ u l → RowOf k u)
    → Memᴰ b (map (λ u. a ∷ u) l) → RowOf (suc k) b
row_mapped k a b l h rest m =
    let f = Memᴰ.of_map (λ u. a ∷ u) l m in
    subst (RowOf (suc k)) f.2 (row_more k a f.0 h (rest f.0 f.1))

pub of_all_bits : (k : ℕ) (b : List ℕ) → Memᴰ b (all_bits k) → (length b ≡ k) × Bits b
unfolding all_bits
of_all_bits zero b m = subst (RowOf 0) (sym (Memᴰ.eq_of_singleton m)) (refl, λ i. omega arith)
of_all_bits (suc k) b m =
    ⊎_elim
    (row_mapped k 0 b (all_bits k) (omega arith) (of_all_bits k))
    (row_mapped k 1 b (all_bits k) (omega arith) (of_all_bits k))
    (Memᴰ.append_cases (map (λ u. 0 ∷ u) (all_bits k)) m)

-- each once
pub distinct_all_bits : (k : ℕ) → Distinct (all_bits k)
unfolding all_bits
distinct_all_bits zero = (Memᴰ.not-nil, tt)
distinct_all_bits (suc k) =
    let all = all_bits k in
    let each : (a : ℕ) → Distinct (map (λ u. a ∷ u) all) = λ a. distinct_map (λ u. a ∷ u) (λ x y e. tail-eq_of_cons-eq e) all (distinct_all_bits k) in
    distinct_append (map (λ u. 0 ∷ u) all) (map (λ u. 1 ∷ u) all) (each 0) (each 1)
    (λ x i j.
    let p = Memᴰ.of_map (λ u. 0 ∷ u) all i in
    let q = Memᴰ.of_map (λ u. 1 ∷ u) all j in
    suc-ne-zero 0 (head-eq_of_cons-eq (q.2 ∙ sym p.2)))

pub fill-all_bits : (ks : List ℕ) → Bits ks → map (fill ks) (all_bits (sum ks)) ≡ rows_of ks
unfolding sum all_bits rows_of
fill-all_bits [] h = refl
fill-all_bits (zero ∷ ks) h =
    rw (zero-add (sum ks)) (sym (map-map (λ u. 0 ∷ u) (fill ks) (all_bits (sum ks))) ∙ ap (map (λ u. 0 ∷ u)) (fill-all_bits ks (λ i. h (suc i))))
fill-all_bits (suc zero ∷ ks) h =
    let all = all_bits (sum ks) in
    let e : 1 + sum ks ≡ suc (sum ks) = omega arith in
    let half : (a : ℕ) → map (fill (1 ∷ ks)) (map (λ u. a ∷ u) all) ≡ map (λ u. a ∷ u) (rows_of ks) =
    λ a. map-map (fill (1 ∷ ks)) (λ u. a ∷ u) all ∙ sym (map-map (λ u. a ∷ u) (fill ks) all) ∙ ap (map (λ u. a ∷ u)) (fill-all_bits ks (λ i. h (suc i))) in
    rw e (map-append (fill (1 ∷ ks)) (map (λ u. 0 ∷ u) all) (map (λ u. 1 ∷ u) all) ∙ ap₂ ◌++◌ (half 0) (half 1))
fill-all_bits (suc (suc k) ∷ ks) h = absurd (omega (arith, h 0))

pub of_rows_of : (ks u : List ℕ) → Bits ks → Memᴰ u (rows_of ks) → (length u ≡ length ks) × Bits u × Frozen ks u
of_rows_of ks u h m =
    let f = Memᴰ.of_map (fill ks) (all_bits (sum ks)) (subst (Memᴰ u) (sym (fill-all_bits ks h)) m) in
    let b = f.0 in
    subst (λ (v : List ℕ). (length v ≡ length ks) × Bits v × Frozen ks v) f.2
    (length-fill ks b, bits_fill ks b (of_all_bits (sum ks) b f.1).1, frozen_fill ks b)
