-- Where the walk starts, and what its first step gives.
use Rattle.std.specs.Prelude.{◌≡◌, refl, List, ℕ, ◌*◌, ◌%◌, ◌^◌, ◌≤◌, ℤ, length, take}
use Rattle.std.proofs.Common.{zero-le, arith, one-mul, mod-eq_of_lt}
use Rattle.std.proofs.Math.Path.{subst}
use Rattle.std.proofs.Math.Pow.{pow_pos}
use Rattle.words.specs.Bits.{Bits}
use Rattle.decoding.specs.Walk.{added_by}
use Rattle.memory.proofs.RowsForLaws.{rows_for_none}
use Rattle.walk.specs.declared.progress.Progress.{Progress}
use Rattle.walk.specs.Progress.{begun, none_yet, AreBits, StepAsked, StepGiven, Walkable, Walked}

-- 2^m as the machine shifts it
pub power_is : (m : ℕ) → 2 ^ m ≤ 256 → (1 * 2 ^ m) % 4294967296 ≡ 2 ^ m
power_is m h = rw one-mul (mod-eq_of_lt (omega (arith, h)))

-- what is held and counted at the start
abbrev pub started : ℕ → ℕ → Progress
started m allowed = record { held = 0; best = 0; second = none_yet; count = begun m allowed }

module _ (m allowed : ℕ) (l₀ : List ℤ) (k₀ best second : List ℕ) where
  pub start_asked : Walkable m (take (2 ^ m) l₀) (take (2 ^ m) k₀) best second → (s : List ℤ) (y : List ℕ) → length y ≡ 256 → Bits y
      → StepAsked l₀ k₀ s y best second (started m allowed) 0 0
  unfolding added_by
  start_asked x s y long bits =
      record {
        ready = record {
          room = x.room;
          long = x.long;
          long_kinds = x.long_kinds;
          small = x.small;
          inside = zero-le;
          penalty = refl;
          going = refl;
          undropped = refl;
          kept = record {
            high = λ h. refl;
            sorted = tt;
            index_inside = omega (arith, pow_pos m);
            long_path = long;
            bits = bits;
            both = x.both;
            rows = rows_for_none m (take (2 ^ m) l₀) y s;
          };
        };
      }

  pub start-given : {s' : List ℤ} {y y' best' second' : List ℕ} {w' : Progress} → StepGiven l₀ k₀ y best second (started m allowed) 0 0 s' y' best' second' w'
      → Walked allowed m (take (2 ^ m) l₀) (take (2 ^ m) k₀) w' best' second'
  start-given {best' = best'} {second' = second'} st =
      let f = st.stepped in
      record { walks = f.walks; same_m = f.same_m; both = subst (λ (k : ℕ). AreBits k best' second') f.same_m f.kept.both }
