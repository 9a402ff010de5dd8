-- Laws of the highest row that changes from one index to another: by the highest digit in which they differ, and the lowest one of the new index.
use Rattle.std.specs.Prelude.{◌≡◌, Bool, true, false, cond, ℕ, zero, suc, ◌+◌, ◌-◌, ◌*◌, ◌^◌, ◌/◌, ◌%◌, ◌≤◌, ◌<◌, max, leb}
use Rattle.std.proofs.Common.{ap, sym, ◌∙◌, subst, true≢false, ⊎_elim, arith, add-mul, mod-lt, pow_pos, pow_mono, pow-add, leb-true, ne_eqb}
use Rattle.std.proofs.Math.Nat.{two-pow-succ, div-eq_of_lt, div-eq_of_lt-le, mod-le, mul-mod_left}
use Rattle.std.proofs.Math.Pow.{pow-lt, mod-mod-pow, split}
use Rattle.std.specs.Int.Bits.{bit_or, bit_xor, xor_self, xor_add_and, or_add_and, or_zero_r}
use Rattle.std.proofs.lemmas.Nat.{and_le_l, and_le_r, xor_shr, xor_lt, or_mod, or_lt, leading_top}
use Rattle.std.specs.Int.Count.{count_leading_zeros}
use Rattle.numbers.specs.Choice.{lt_or_le}
use Rattle.numbers.specs.Lowest.{LowestOne}
use Rattle.numbers.specs.LowestLaws.{lowest_within}
use Rattle.memory.specs.Memory.{follows, Top, Highest}

-- ---- the highest one, by a logarithm that is cut to a whole number
module _ (x : ℕ) where
  pub some_bit : 0 < bit_or x 1
  some_bit = omega (arith, or_add_and x 1, and_le_l x 1)

  pub highest_by_power : (t : ℕ) → 2 ^ t ≤ bit_or x 1 → bit_or x 1 < 2 * 2 ^ t → Highest x t
  highest_by_power t low high =
      record {
        above = omega (arith, two-pow-succ t, or_add_and x 1, and_le_r x 1);
        inside = λ m h k. ⊎_elim (λ (j : t < m). j)
            (λ (j : m ≤ t). let most = or_lt m x 1 k (omega (arith, pow-lt {i = 0} {j = m} h)) in
            absurd (omega (arith, low, most, pow_mono {i = m} {j = t} j)))
            (lt_or_le t m);
      }

  -- and as the machine counts the leading zeros of 64 bits
  module _ (fits : x < 2 ^ 64) where
    or_fits : bit_or x 1 < 2 ^ 64
    or_fits = or_lt 64 x 1 fits (omega arith)

    pub leading_most : count_leading_zeros 64 (bit_or x 1) ≤ 63
    leading_most = let q = leading_top 64 (bit_or x 1) some_bit or_fits in omega (arith, q.1)

    pub is_highest : Highest x (63 - count_leading_zeros 64 (bit_or x 1))
    is_highest =
        let q = leading_top 64 (bit_or x 1) some_bit or_fits in
        let e : q.0 ≡ 63 - count_leading_zeros 64 (bit_or x 1) = omega (arith, q.1) in
        subst (Highest x) e (highest_by_power q.0 (omega (arith, q.2)) (omega (arith, q.3, two-pow-succ q.0)))

same_of_xor : (a b : ℕ) → bit_xor a b ≡ 0 → a ≡ b
same_of_xor a b e = omega (arith, xor_add_and a b, and_le_l a b, and_le_r a b)

module _ (m j i : ℕ) (more : 0 < m) (was : j < 2 ^ m) (inside : i < 2 ^ m) where
  pub some_one : 0 < bit_or i (2 ^ (m - 1))
  some_one = omega (arith, or_add_and i (2 ^ (m - 1)), and_le_l i (2 ^ (m - 1)), pow_pos (m - 1))

  or_inside : bit_or i (2 ^ (m - 1)) < 2 ^ m
  or_inside =
      let e : m ≡ suc (m - 1) = omega arith in
      or_lt m i (2 ^ (m - 1)) inside (subst (λ (k : ℕ). 2 ^ (m - 1) < 2 ^ k) (sym e) (omega (arith, two-pow-succ (m - 1), pow_pos (m - 1))))

  low-one : (b : ℕ) → LowestOne b (bit_or i (2 ^ (m - 1))) → suc b < m → i % 2 ^ suc b ≡ 2 ^ b
  low-one b o h =
      let n : m - 1 ≡ m - 1 - suc b + suc b = omega arith in
      let z : 2 ^ (m - 1) % 2 ^ suc b ≡ 0 = ap (λ (k : ℕ). 2 ^ k % 2 ^ suc b) n ∙ ap (λ (k : ℕ). k % 2 ^ suc b) (pow-add 2 (m - 1 - suc b) (suc b))
      ∙ mul-mod_left (2 ^ (m - 1 - suc b)) (2 ^ suc b) in
      sym (or_mod i (2 ^ (m - 1)) (suc b) ∙ ap (bit_or (i % 2 ^ suc b)) z ∙ or_zero_r (i % 2 ^ suc b)) ∙ o

  pub is_top : (a b t : ℕ) → Highest (bit_xor j i) a → LowestOne b (bit_or i (2 ^ (m - 1))) → t ≡ max a b → Top m j i t
  is_top a b t h o e =
      record {
        within = omega (arith, h.inside m more (xor_lt m j i was inside), lowest_within m b (bit_or i (2 ^ (m - 1))) o or_inside);
        same = λ k. same_of_xor (j / 2 ^ suc t) (i / 2 ^ suc t)
            (sym (xor_shr j i (suc t)) ∙ div-eq_of_lt (omega (arith, h.above, pow_mono {i = suc a} {j = suc t} (omega arith))));
        before = λ k.
            let n : t - b + suc b ≡ suc t = omega arith in
            let low : i % 2 ^ suc t % 2 ^ suc b ≡ 2 ^ b =
            subst (λ (k : ℕ). i % 2 ^ k % 2 ^ suc b ≡ i % 2 ^ suc b) n (mod-mod-pow i (t - b) (suc b)) ∙ low-one b o (omega arith) in
            omega (arith, split i (suc t), low, mod-le (i % 2 ^ suc t) (2 ^ suc b), pow_pos b);
      }

-- ---- where only the blocks that start at the new index change
top_same : {m j i : ℕ} (t : ℕ) → t < m → j / 2 ^ suc t ≡ i / 2 ^ suc t → LowestOne t i → Top m j i t
top_same {m} {j} {i} t h e o = record { within = h; same = λ k. e; before = λ k. omega (arith, split i (suc t), o, pow_pos t) }

-- the digits above the lowest one of i are those of the index before it
above_one : (j i t : ℕ) → j + 1 ≡ i → LowestOne t i → j / 2 ^ suc t ≡ i / 2 ^ suc t
above_one j i t next o =
    let p = 2 ^ suc t in
    div-eq_of_lt-le p {m = j} (omega (arith, split i (suc t), o, next, pow_pos t))
    (rw (add-mul (i / p) 1 p) (omega (arith, split i (suc t), o, next, two-pow-succ t)))

pub top_next : {m j i : ℕ} (t : ℕ) → t < m → j + 1 ≡ i → LowestOne t i → Top m j i t
top_next {m} {j} {i} t h next o = top_same t h (above_one j i t next o) o

pub top_follows : {m j i : ℕ} (t : ℕ) → t < m → follows j i ≡ true → LowestOne t i → Top m j i t
top_follows {m} {j} {i} t h f o =
    let p = 2 ^ suc t in
    let x = bit_xor i (i - 1) in
    let some : 0 < i = omega (arith, split i (suc t), o, pow_pos t) in
    let least : bit_xor j i ≤ x =
    leb-true (bit_xor j i) x (sym (ap (λ (z : Bool). cond z false (leb (bit_xor j i) x)) (ne_eqb i 0 (λ e. omega arith))) ∙ f) in
    let none : x / p ≡ 0 = xor_shr i (i - 1) (suc t) ∙ ap (bit_xor (i / p)) (above_one (i - 1) i t (omega arith) o) ∙ xor_self (i / p) in
    let small : bit_xor j i < p = omega (arith, split x (suc t), mod-lt x (pow_pos (suc t)), ap (λ (k : ℕ). k * p) none) in
    top_same t h (same_of_xor (j / p) (i / p) (sym (xor_shr j i (suc t)) ∙ div-eq_of_lt small)) o

-- and index 0 follows none
pub follows_some : (j i : ℕ) → follows j i ≡ true → 0 < i
follows_some j zero f = absurd (true≢false (sym f))
follows_some j (suc i) f = omega arith

-- where it is no block of one, two or four indices that starts there and none of twice as many, it is one of more
pub starts_more : (t i : ℕ) → LowestOne t i → (i % 2 ≡ 1 → ⊥) → (i % 4 ≡ 2 → ⊥) → (i % 8 ≡ 4 → ⊥) → 3 ≤ t
starts_more zero i o one two four = absurd (one o)
starts_more (suc zero) i o one two four = absurd (two o)
starts_more (suc (suc zero)) i o one two four = absurd (four o)
starts_more (suc (suc (suc t))) i o one two four = omega arith

-- what fits the arrays
pub exponent_small : (m : ℕ) → 2 ^ m ≤ 256 → m ≤ 8
exponent_small m h = ⊎_elim (λ (k : 8 < m). absurd (omega (arith, pow_mono {i = 9} {j = m} k))) (λ (k : m ≤ 8). k) (lt_or_le 8 m)
