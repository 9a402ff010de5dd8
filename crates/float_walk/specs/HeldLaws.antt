-- Laws of what the float walk holds and counts: the functions of `walk` change what is counted, and a full path what is held.
use Rattle.std.specs.Prelude.{◌≡◌, List, ℕ, ◌^◌, ℤ, length, take, Float}
use Rattle.std.proofs.Math.Path.{ap}
use Rattle.std.proofs.Common.{sym, subst, arith, lt-ltb}
use Rattle.std.specs.Float.Ieee as Ieee
use Rattle.std.specs.Float.{binary32}
use Rattle.words.specs.Bits.{Bits}
use Rattle.walk.specs.declared.progress.Count.{Count}
use Rattle.walk.specs.declared.progress.Progress.{Progress}
use Rattle.walk.specs.Progress.{none_yet, begun, holding, Finished, StepAsked, StepGiven, Walkable, Walked}
use Rattle.walk.specs.ProgressLaws.{first_held}
use Rattle.walk.specs.GoingLaws.{reached_given}
use Rattle.walk.specs.StartLaws.{started, start_asked, start-given}
use Rattle.float_walk.specs.declared.Penalties.{Penalties}
use Rattle.float_walk.specs.Held.{count, second_of, progress_of, FloatAsked, FloatGiven, FloatReached}
use Rattle.float_walk.specs.PenaltyLaws.{no_count, no_penalty}

-- ---- the first full path: still no second
pub float-first : (h : Penalties) (x : Float) {n : ℕ} (y best second best' : List ℕ) (c : Count) → n ≡ 2 ^ c.m → h.held ≡ 0 → take n best' ≡ take n y
    → Finished (count x) (progress_of h c) y best second (progress_of (record { held = 1; best = x; second = h.second }) c) best' second
float-first h x {n} y best second best' c e z b =
    let none : second_of h ≡ none_yet = rw (lt-ltb h.held 2 (omega (arith, z))) in
    subst (λ (k : ℕ). Finished (count x) (progress_of h c) y best second (holding 1 (count x) k (progress_of h c)) best' second) none
    (first_held n (count x) (progress_of h c) y best second best' second e z b)

-- ---- the walk from where the loop is equals the walk from its first index
pub float-given : {l : List ℤ} {kinds y₀ best₀ second₀ : List ℕ} {c₀ : Count} {h : Penalties} {from : ℕ} {p₀ : Float}
    {s : List ℤ} {y best second : List ℕ} {c : Count} {i : ℕ} {p : Float} → FloatReached l kinds y₀ best₀ second₀ c₀ h from p₀ s y best second c i p
    → {s' : List ℤ} {y' best' second' : List ℕ} {c' : Count} {h' : Penalties} → FloatGiven l kinds y best second c h i p s' y' best' second' c' h'
    → FloatGiven l kinds y₀ best₀ second₀ c₀ h from p₀ s' y' best' second' c' h'
float-given r g = record { given = reached_given r.reached g.given; counts = g.counts }

-- ---- where the walk starts
abbrev zero_float : Float
zero_float = Ieee.of_bits binary32 0

abbrev pub none_held : Penalties
none_held = record { held = 0; best = zero_float; second = zero_float }

module _ (m allowed : ℕ) (l : List ℤ) (kinds best second : List ℕ) where
  none_started : progress_of none_held (begun m allowed) ≡ started m allowed
  none_started = ap (λ (k : ℕ). record (started m allowed) { best = k }) no_count

  pub float_asked : Walkable m (take (2 ^ m) l) (take (2 ^ m) kinds) best second → (s : List ℤ) (y : List ℕ) → length y ≡ 256 → Bits y
      → FloatAsked l kinds s y best second (begun m allowed) none_held 0 zero_float
  float_asked x s y long bits =
      record {
        asked = subst (λ (p : ℕ). StepAsked l kinds s y best second (progress_of none_held (begun m allowed)) 0 p) (sym no_count)
            (subst (λ (w : Progress). StepAsked l kinds s y best second w 0 0) (sym none_started)
            (start_asked m allowed l kinds best second x s y long bits));
        penalty = no_penalty;
        counts = record { best = no_penalty; second = no_penalty };
      }

  pub float-walked : {s' : List ℤ} {y y' best' second' : List ℕ} {c' : Count} {h' : Penalties}
      → FloatGiven l kinds y best second (begun m allowed) none_held 0 zero_float s' y' best' second' c' h'
      → Walked allowed m (take (2 ^ m) l) (take (2 ^ m) kinds) (progress_of h' c') best' second'
  float-walked {s'} {y} {y'} {best'} {second'} {c'} {h'} g =
      let from_none = subst (λ (p : ℕ). StepGiven l kinds y best second (progress_of none_held (begun m allowed)) 0 p
      s' y' best' second' (progress_of h' c')) no_count g.given in
      start-given m allowed l kinds best second
      (subst (λ (w : Progress). StepGiven l kinds y best second w 0 0 s' y' best' second' (progress_of h' c')) none_started from_none)
