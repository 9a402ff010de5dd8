-- The bound is sharp for every 0 ≤ r ≤ m and every M: take a lightest word, the zero row, and readings that say nothing where they differ.
use Rattle.std.specs.Prelude.{◌≡◌, refl, List, [], ◌∷◌, ℕ, zero, suc, ◌-◌, ◌*◌, ◌^◌, ◌≤◌, ◌<◌, length, replicate, ℤ}
use Rattle.std.proofs.Common.{ap, sym, subst, ◌∙◌, ⊎_elim, arith, suc-ne-zero, pow_pos, ne_eqb}
use Rattle.numbers.specs.Choice.{lt_or_le}
use Rattle.words.specs.Kinds.{kinds, encoded, InformationBits, Word}
use Rattle.words.specs.Distance.{distance}
use Rattle.words.proofs.KindLaws.{length-kinds, sum_kinds_pos}
use Rattle.words.proofs.InverseLaws.{word-length, word-zeros}
use Rattle.words.specs.DistanceLaws.{lightest}
use Rattle.words.proofs.DistanceLaws.{lightest-word, distance_attained}
use Rattle.decoding.specs.Readings.{penalty, Within}
use Rattle.decoding.specs.Best.{gap, best_bits}
use Rattle.decoding.specs.BestLaws.{none_less, best_only}
use Rattle.sure.specs.Sure.{doubt, AtTheBound}
use Rattle.sure.specs.SharpLaws.{undecided}

length-undecided : (M : ℕ) (x : List ℕ) → length (undecided M x) ≡ length x
length-undecided M [] = refl
length-undecided M (zero ∷ x) = ap suc (length-undecided M x)
length-undecided M (suc b ∷ x) = ap suc (length-undecided M x)

within_undecided : (M : ℕ) (x : List ℕ) → Within M (undecided M x)
within_undecided M [] i = omega arith
within_undecided M (zero ∷ x) zero = omega arith
within_undecided M (suc b ∷ x) zero = omega arith
within_undecided M (zero ∷ x) (suc i) = within_undecided M x i
within_undecided M (suc b ∷ x) (suc i) = within_undecided M x i

-- neither word loses anything, and the sum of each is M for each place where they differ
record Undecided (M : ℕ) (l : List ℤ) (x z : List ℕ) : Type 0 where
  loses : penalty l x ≡ 0
  sum_is : doubt M l x ≡ M * distance x z
  zero_loses : penalty l z ≡ 0
  zero-sum-is : doubt M l z ≡ M * distance x z

is-undecided : (M : ℕ) (x : List ℕ) → Undecided M (undecided M x) x (replicate (length x) 0)
unfolding penalty doubt distance
is-undecided M [] = record { loses = refl; sum_is = omega arith; zero_loses = refl; zero-sum-is = omega arith }
is-undecided M (zero ∷ x) =
    let u = is-undecided M x in
    record { loses = omega (arith, u); sum_is = omega (arith, u); zero_loses = omega (arith, u); zero-sum-is = omega (arith, u) }
is-undecided M (suc b ∷ x) =
    let u = is-undecided M x in
    let z : List ℕ = replicate (length x) 0 in
    let one : distance (suc b ∷ x) (0 ∷ z) ≡ suc (distance x z) = rw (ne_eqb (suc b) 0 (suc-ne-zero b)) (omega arith) in
    record { loses = omega (arith, u); sum_is = rw one (omega (arith, u)); zero_loses = omega (arith, u); zero-sum-is = rw one (omega (arith, u)) }

distance-zeros : (n : ℕ) → distance (replicate n 0) (replicate n 0) ≡ 0
unfolding distance
distance-zeros zero = refl
distance-zeros (suc n) = omega (arith, distance-zeros n)

-- two words without a penalty leave no gap
tied_at_zero : (r m : ℕ) (l : List ℤ) (x y : List ℕ) → Word m (kinds r m) x → Word m (kinds r m) y → (x ≡ y → ⊥) → penalty l x ≡ 0 → penalty l y ≡ 0
    → gap m (kinds r m) l ≡ 0
tied_at_zero r m l x y v w differ p q =
    let ks = kinds r m in
    let best : (z : List ℕ) (u : Word m ks z) → 0 < gap m ks l → penalty l z ≡ 0 → u.bits ≡ best_bits m ks l = λ z u g o.
    let i : InformationBits ks u.bits = (u.long, u.are_bits) in
    let has = ap (penalty l) u.gives ∙ o in
    best_only m ks l (sum_kinds_pos r m) g u.bits i (omega (arith, has, none_less m ks l u.bits i)) in
    ⊎_elim
    (λ g. absurd (differ (sym v.gives ∙ ap (encoded m ks) (best x v g p ∙ sym (best y w g q)) ∙ w.gives)))
    (λ g. omega arith)
    (lt_or_le 0 (gap m ks l))

pub sharp : (M r m : ℕ) → r ≤ m → AtTheBound M r m (undecided M (lightest r m)) (lightest r m) (replicate (2 ^ m) 0)
sharp M r m h =
    let x = lightest r m in
    let zeros : List ℕ = replicate (2 ^ m) 0 in
    let v = lightest-word r m h in
    let w = word-zeros m (kinds r m) (length-kinds r m) in
    let e = word-length m (kinds r m) x (length-kinds r m) v in
    let u : Undecided M (undecided M x) x zeros = subst (λ (n : ℕ). Undecided M (undecided M x) x (replicate n 0)) e (is-undecided M x) in
    let far = distance_attained r m h in
    let differ : x ≡ zeros → ⊥ = λ same.
    omega (arith, sym far ∙ ap (λ (y : List ℕ). distance y zeros) same ∙ distance-zeros (2 ^ m), pow_pos (m - r)) in
    record {
      within = within_undecided M x;
      long = length-undecided M x ∙ e;
      first_word = v;
      second_word_lem = w;
      differ = differ;
      first-sum = u.sum_is ∙ ap (λ (n : ℕ). M * n) far;
      second-sum = u.zero-sum-is ∙ ap (λ (n : ℕ). M * n) far;
      no_gap = tied_at_zero r m (undecided M x) x zeros v w differ u.loses u.zero_loses;
    }
