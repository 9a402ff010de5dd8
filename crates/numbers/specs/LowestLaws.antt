-- Laws of the lowest one: as the machine counts it, and what bounds it.
use Rattle.std.specs.Prelude.{◌≡◌, ℕ, zero, suc, ◌+◌, ◌*◌, ◌^◌, ◌%◌, ◌/◌, ◌≤◌, ◌<◌}
use Rattle.std.proofs.Common.{◌∙◌, ⊎_elim, arith, add-one, pow_mono}
use Rattle.std.proofs.Math.Nat.{two-pow-succ, mod-le}
use Rattle.std.specs.Int.Count.{count_trailing_zeros}
use Rattle.std.proofs.lemmas.Nat.{mod-pow-add}
use Rattle.numbers.specs.Choice.{lt_or_le}
use Rattle.numbers.specs.Lowest.{LowestOne}

-- for an even number it is one above that of its half
twice : (t n : ℕ) → n % 2 ≡ 0 → LowestOne t (n / 2) → LowestOne (suc t) n
twice t n z e =
    let s : n % 2 ^ suc (suc t) ≡ (n / 2 % 2 ^ suc t) * 2 + n % 2 = rw (← add-one (suc t)) (mod-pow-add n (suc t) 1) in
    s ∙ omega (arith, two-pow-succ t)

-- the machine's count of trailing zeros
pub lowest_counted : (k n : ℕ) → 0 < n → n < 2 ^ k → LowestOne (count_trailing_zeros k n) n
unfolding count_trailing_zeros
lowest_counted zero n h l = absurd (omega arith)
lowest_counted (suc k) n h l =
    ⊎_elim
    (λ (e : n % 2 < 1). let z : n % 2 ≡ 0 = omega arith in
    rw z (twice (count_trailing_zeros k (n / 2)) n z (lowest_counted k (n / 2) (omega arith) (omega (arith, two-pow-succ k)))))
    (λ (e : 1 ≤ n % 2). let z : n % 2 ≡ 1 = omega arith in rw z z)
    (lt_or_le (n % 2) 1)

pub lowest_le : (t n : ℕ) → LowestOne t n → 2 ^ t ≤ n
lowest_le t n e = omega (arith, mod-le n (2 ^ suc t))

pub lowest_within : (m t n : ℕ) → LowestOne t n → n < 2 ^ m → t < m
lowest_within m t n e h =
    ⊎_elim (λ (k : t < m). k) (λ (k : m ≤ t). absurd (omega (arith, pow_mono {i = m} {j = t} k, lowest_le t n e))) (lt_or_le t m)
