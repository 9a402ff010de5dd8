-- The law of correlation and penalty: correlation + 2 × penalty = sum of sizes, for every word.
use Rattle.std.specs.Prelude.{◌≡◌, refl, List, [], ◌∷◌, ℕ, zero, suc, ◌+◌, ◌*◌, length, ℤ, pos, nat_abs, ◌+ℤ◌}
use Rattle.std.proofs.Common.{ap, arith, suc-ne-zero}
use Rattle.std.proofs.Math.Nat.{suc_inj}
use Rattle.numbers.specs.Parts.{up, down}
use Rattle.numbers.specs.PartsLaws.{parts, sum_parts, negated, by_parts}
use Rattle.decoding.specs.Readings.{loss, turn, penalty, correlation, sizes}

-- at one position: the turned reading is what is not lost minus what is lost
record Turned (r : ℤ) (b : ℕ) : Type 0 where
  up-turned : up (turn b r) + loss r b ≡ nat_abs r
  down-turned : down (turn b r) ≡ loss r b

turned : (r : ℤ) (b : ℕ) → Turned r b
turned r zero = record { up-turned = omega (arith, parts r); down-turned = refl }
turned r (suc b) = record { up-turned = omega (arith, parts r, negated r); down-turned = (negated r).down-negated }

pub correlation_law : (l : List ℤ) (x : List ℕ) → length l ≡ length x → correlation l x +ℤ pos (2 * penalty l x) ≡ pos (sizes l)
unfolding correlation penalty sizes
correlation_law [] x e = refl
correlation_law (r ∷ l) [] e = absurd (suc-ne-zero (length l) e)
correlation_law (r ∷ l) (b ∷ x) e =
    let onward = correlation_law l x (suc_inj e) in
    let c = correlation l x in
    let p = penalty l x in
    by_parts _ _
    (omega (
      arith,
      ap up onward,
      ap down onward,
      sum_parts c (pos (2 * p)),
      sum_parts (turn b r) c,
      sum_parts (turn b r +ℤ c) (pos (2 * (loss r b + p))),
      turned r b,
    ))
