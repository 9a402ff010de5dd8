-- The largest size as M: no size is above it, no smaller M has that, and a word that has the property for any M has it for the largest size.
use Rattle.std.specs.Prelude.{◌≡◌, List, [], ◌∷◌, ℕ, zero, suc, ◌+◌, ◌-◌, ◌*◌, ◌^◌, ◌≤◌, ◌<◌, length, ℤ}
use Rattle.std.proofs.Common.{ap, sym, ◌∙◌, arith, add-mul, mul_comm, mul-le-mul_left, pow_mono}
use Rattle.decoding.specs.Readings.{penalty, sizes, Within}
use Rattle.decoding.specs.StepLaws.{sizes_within}
use Rattle.sure.specs.Sure.{largest, Sure}
use Rattle.sure.proofs.MarginLaws.{doubt-penalty}

pub within_largest : (l : List ℤ) → Within (largest l) l
unfolding largest
within_largest [] i = omega arith
within_largest (x ∷ l) zero = omega arith
within_largest (x ∷ l) (suc i) = omega (arith, within_largest l i)

pub largest-least : (M : ℕ) (l : List ℤ) → Within M l → largest l ≤ M
unfolding largest
largest-least M [] h = omega arith
largest-least M (x ∷ l) h = omega (arith, h 0, largest-least M l (λ i. h (suc i)))

-- d is at most n, so that the larger M is, the more n × M outweighs M × d
smaller_will_do : (M N n d p s : ℕ) → N ≤ M → d ≤ n → 2 * p + n * M < s + M * d → 2 * p + n * N < s + N * d
smaller_will_do M N n d p s h k c =
    let apart : (K : ℕ) → n * K ≡ K * d + (n - d) * K = λ K.
    let whole : n ≡ d + (n - d) = omega arith in
    ap (λ (x : ℕ). x * K) whole ∙ add-mul d (n - d) K ∙ ap (λ (x : ℕ). x + (n - d) * K) (mul_comm d K) in
    omega (arith, apart M, apart N, mul-le-mul_left (n - d) h)

-- and it is not 0, since nothing is below 0 × d
not-zero : (N n d p s : ℕ) → s ≤ n * N → 2 * p + n * N < s + N * d → 1 ≤ N
not-zero zero n d p s h c = absurd (omega arith)
not-zero (suc N) n d p s h c = omega arith

pub largest_sure : (M r m : ℕ) (l : List ℤ) (c : List ℕ) → length c ≡ 2 ^ m → Sure M r m l c → Sure (largest l) r m l c
largest_sure M r m l c e s =
    let N = largest l in
    let n = length l in
    let d = 2 ^ (m - r) in
    let most : d ≤ n = rw s.long (pow_mono {i = m - r} {j = m} (omega arith)) in
    let same = s.long ∙ sym e in
    let clear : 2 * penalty l c + n * M < sizes l + M * d = omega (arith, doubt-penalty M l c same s.within, s.below) in
    let still = smaller_will_do M N n d (penalty l c) (sizes l) (largest-least M l s.within) most clear in
    record {
      at_least_one = not-zero N n d (penalty l c) (sizes l) (sizes_within N l (within_largest l)) still;
      within = within_largest l;
      long = s.long;
      below = omega (arith, doubt-penalty N l c same (within_largest l), still);
    }
