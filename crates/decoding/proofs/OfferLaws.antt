-- What is held of a list of full paths that are offered one after the other: two of them, with the least and the next penalty.
use Rattle.std.specs.Prelude.{◌≡◌, refl, true, ℕ, ◌+◌, ◌≤◌, ◌<◌, min, length, ltb, leb}
use Rattle.std.proofs.Common.{ap, sym, ◌∙◌, subst, arith, le_of_lt, le-leb, leb-true, leb-false, ltb-true, ltb-false}
use Rattle.std.proofs.lemmas.Bool.{false≢true}
use mathlib.Core.List.{List, [], ◌∷◌, ◌++◌, Memᴰ}
use Rattle.numbers.specs.Choice.{cond_by}
use Rattle.numbers.specs.Sums.{sum}
use Rattle.numbers.specs.LeastLaws.{at_most, upto, at_most_lem, at_most_mono, at_most-back, LeastTwo}
use Rattle.numbers.specs.EntryLaws.{Distinct, distinct_swap, distinct_less, distinct_third}
use Rattle.decoding.specs.Walk.{Full, Held, none, one, two, dropped, hold}
use Rattle.decoding.specs.OfferLaws.{penalties_of, paths_of, offer, offers, Sorted}

pub offers-append : (h : Held) (k l : List Full) → offers h (k ++ l) ≡ offers (offers h k) l
offers-append h [] l = refl
offers-append h (f ∷ k) l = offers-append (offer h f) k l

-- where a penalty is dropped, so are all that are no less
pub offers-dropped : (h : Held) (q : ℕ) (l : List Full) → dropped h q ≡ true → ((f : Full) → Memᴰ f l → q ≤ f.penalty) → offers h l ≡ h
offers-dropped h q [] e above = refl
offers-dropped none q (f ∷ l) e above = absurd (false≢true e)
offers-dropped (one a) q (f ∷ l) e above = absurd (false≢true e)
offers-dropped (two a b) q (f ∷ l) e above =
    rw (le-leb b.penalty f.penalty (omega (arith, leb-true b.penalty q e, above f (Memᴰ.head refl))))
    (offers-dropped (two a b) q l e (λ g i. above g (Memᴰ.tail i)))

-- one more, by its penalty
by_penalty : (P : Held → Type 0) (a f : Full) → (f.penalty < a.penalty → P (two f a)) → (a.penalty ≤ f.penalty → P (two a f)) → P (hold (one a) f)
by_penalty P a f x y =
    cond_by P (ltb f.penalty a.penalty) (two f a) (two a f)
    (λ e. x (ltb-true f.penalty a.penalty e)) (λ e. y (ltb-false f.penalty a.penalty e))

pub by_penalties : (P : Held → Type 0) (a b f : Full) → (f.penalty < a.penalty → P (two f a))
    → (f.penalty < b.penalty → a.penalty ≤ f.penalty → P (two a f)) → (b.penalty ≤ f.penalty → P (two a b)) → P (offer (two a b) f)
by_penalties P a b f x y z =
    cond_by P (leb b.penalty f.penalty) (two a b) (hold (two a b) f)
    (λ e. z (leb-true b.penalty f.penalty e)) (λ e. by_penalty P a f x (y (leb-false b.penalty f.penalty e)))

-- ---- how many are held
abbrev held_number : Held → ℕ
held_number none = 0
held_number (one a) = 1
held_number (two a b) = 2

number-offer : (h : Held) (f : Full) → held_number (offer h f) ≡ min 2 (held_number h + 1)
number-offer none f = refl
number-offer (one a) f = by_penalty (λ h. held_number h ≡ 2) a f (λ i. refl) (λ i. refl)
number-offer (two a b) f = by_penalties (λ h. held_number h ≡ 2) a b f (λ i. refl) (λ i j. refl) (λ i. refl)

number-offers : (h : Held) (l : List Full) → held_number (offers h l) ≡ min 2 (held_number h + length l)
number-offers none [] = refl
number-offers (one a) [] = refl
number-offers (two a b) [] = refl
number-offers h (f ∷ l) = number-offers (offer h f) l ∙ omega (arith, number-offer h f)

two_of : (h : Held) → held_number h ≡ 2 → (a : Full) × (b : Full) × (h ≡ two a b)
two_of none e = absurd (omega arith)
two_of (one a) e = absurd (omega arith)
two_of (two a b) e = (a, b, refl)

-- of two or more two are held
pub two_held : (l : List Full) → 2 ≤ length l → (a : Full) × (b : Full) × (offers none l ≡ two a b)
two_held l h = two_of (offers none l) (number-offers none l ∙ omega arith)

pub sorted_offer : (h : Held) (f : Full) → Sorted h → Sorted (offer h f)
sorted_offer none f h = tt
sorted_offer (one a) f h = by_penalty Sorted a f (λ i. le_of_lt i) (λ i. i)
sorted_offer (two a b) f h = by_penalties Sorted a b f (λ i. le_of_lt i) (λ i j. j) (λ i. h)

sorted_offers : (h : Held) (l : List Full) → Sorted h → Sorted (offers h l)
sorted_offers h [] s = s
sorted_offers h (f ∷ l) s = sorted_offers (offer h f) l (sorted_offer h f s)

-- how many of those held have a penalty of at most t
abbrev held_upto : ℕ → Held → ℕ
held_upto t none = 0
held_upto t (one a) = at_most t a.penalty
held_upto t (two a b) = at_most t a.penalty + at_most t b.penalty

-- up to two, those held count as all do
upto-offer : (t : ℕ) (h : Held) (f : Full) → Sorted h → (n : ℕ) → min 2 (held_upto t (offer h f) + n) ≡ min 2 (held_upto t h + (at_most t f.penalty + n))
upto-offer t none f s n = omega arith
upto-offer t (one a) f s n =
    by_penalty (λ h. min 2 (held_upto t h + n) ≡ min 2 (at_most t a.penalty + (at_most t f.penalty + n))) a f (λ i. omega arith) (λ i. omega arith)
upto-offer t (two a b) f s n =
    let bit : at_most t f.penalty ≤ 1 = (at_most_lem t f.penalty).bit in
    let bit_a : at_most t a.penalty ≤ 1 = (at_most_lem t a.penalty).bit in
    by_penalties (λ h. min 2 (held_upto t h + n) ≡ min 2 (at_most t a.penalty + at_most t b.penalty + (at_most t f.penalty + n))) a b f
    (λ i. omega (arith, at_most_mono t s, at_most_mono t (le_of_lt i)))
    (λ i j. omega (arith, at_most_mono t (le_of_lt i), at_most_mono t j))
    (λ i. omega (arith, at_most_mono t s, at_most_mono t i))

upto-offers : (t : ℕ) (h : Held) (l : List Full) → Sorted h → min 2 (held_upto t (offers h l)) ≡ min 2 (held_upto t h + upto t (penalties_of l))
unfolding upto sum
upto-offers t h [] s = ap (min 2) (omega arith)
upto-offers t h (f ∷ l) s = upto-offers t (offer h f) l (sorted_offer h f s) ∙ upto-offer t h f s (upto t (penalties_of l))

pub offers-least : (l : List Full) (a b : Full) → offers none l ≡ two a b → LeastTwo (penalties_of l) a.penalty b.penalty
offers-least l a b e = record { first = λ t. (one_of t, of_one t); second = λ t. (both_of t, of_both t) }
  where
    order : a.penalty ≤ b.penalty
    order = subst Sorted e (sorted_offers none l tt)

    same : (t : ℕ) → min 2 (at_most t a.penalty + at_most t b.penalty) ≡ min 2 (upto t (penalties_of l))
    same t = sym (ap (λ (h : Held). min 2 (held_upto t h)) e) ∙ upto-offers t none l tt ∙ ap (min 2) (omega arith)

    one_of : (t : ℕ) → 1 ≤ upto t (penalties_of l) → a.penalty ≤ t
    one_of t h = at_most-back t a.penalty (omega (arith, same t, at_most_mono t order))

    of_one : (t : ℕ) → a.penalty ≤ t → 1 ≤ upto t (penalties_of l)
    of_one t h = omega (arith, same t, (at_most_lem t a.penalty).on h)

    both_of : (t : ℕ) → 2 ≤ upto t (penalties_of l) → b.penalty ≤ t
    both_of t h = at_most-back t b.penalty (omega (arith, same t, (at_most_lem t a.penalty).bit))

    of_both : (t : ℕ) → b.penalty ≤ t → 2 ≤ upto t (penalties_of l)
    of_both t h = omega (arith, same t, (at_most_lem t b.penalty).on h, at_most_mono t order)

-- ---- two of those offered
abbrev Each : (Full → Type 0) → Held → Type 0
Each Q none = Unit {0}
Each Q (one a) = Q a
Each Q (two a b) = Q a × Q b

each_offer : (Q : Full → Type 0) (h : Held) (f : Full) → Each Q h → Q f → Each Q (offer h f)
each_offer Q none f e q = q
each_offer Q (one a) f e q = by_penalty (Each Q) a f (λ i. (q, e)) (λ i. (e, q))
each_offer Q (two a b) f e q = by_penalties (Each Q) a b f (λ i. (q, e.0)) (λ i j. (e.0, q)) (λ i. e)

each_offers : (Q : Full → Type 0) (h : Held) (l : List Full) → Each Q h → ((f : Full) → Memᴰ f l → Q f) → Each Q (offers h l)
each_offers Q h [] e q = e
each_offers Q h (f ∷ l) e q = each_offers Q (offer h f) l (each_offer Q h f e (q f (Memᴰ.head refl))) (λ g i. q g (Memᴰ.tail i))

-- what is true of all that are offered is true of both
pub offers_each : (Q : Full → Type 0) (l : List Full) (a b : Full) → offers none l ≡ two a b → ((f : Full) → Memᴰ f l → Q f) → Q a × Q b
offers_each Q l a b e q = subst (Each Q) e (each_offers Q none l tt q)

-- ---- and not one path twice
abbrev held_paths : Held → List (List ℕ)
held_paths none = []
held_paths (one a) = a.path ∷ []
held_paths (two a b) = a.path ∷ b.path ∷ []

-- no path occurs twice among those held and those in r
abbrev Apart : List (List ℕ) → Held → Type 0
Apart r h = Distinct (held_paths h ++ r)

apart_offer : (h : Held) (f : Full) (r : List (List ℕ)) → Apart (f.path ∷ r) h → Apart r (offer h f)
apart_offer none f r d = d
apart_offer (one a) f r d = by_penalty (Apart r) a f (λ i. distinct_swap a.path f.path r d) (λ i. d)
apart_offer (two a b) f r d =
    let a_f : Distinct (a.path ∷ f.path ∷ r) = distinct_less a.path b.path (f.path ∷ r) d in
    by_penalties (Apart r) a b f (λ i. distinct_swap a.path f.path r a_f) (λ i j. a_f) (λ i. distinct_third a.path b.path f.path r d)

apart_offers : (h : Held) (l : List Full) → Apart (paths_of l) h → Apart [] (offers h l)
apart_offers h [] d = d
apart_offers h (f ∷ l) d = apart_offers (offer h f) l (apart_offer h f (paths_of l) d)

pub offers_apart : (l : List Full) (a b : Full) → offers none l ≡ two a b → Distinct (paths_of l) → a.path ≡ b.path → ⊥
offers_apart l a b e d same = (subst (Apart []) e (apart_offers none l d)).0 (Memᴰ.head same)
