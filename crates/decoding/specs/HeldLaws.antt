-- What is held, with each path replaced by another: whether a path is dropped, and where it is held, is decided by penalties alone.
use Rattle.std.specs.Prelude.{◌≡◌, refl, List, ℕ, ltb}
use Rattle.std.proofs.Common.{ap}
use Rattle.numbers.specs.Choice.{cond_two}
use Rattle.decoding.specs.Walk.{Full, Held, none, one, two, State, dropped, hold, finished}

module _ (g : List ℕ → List ℕ) where
  abbrev pub full_by : Full → Full
  full_by f = record { path = g f.path; penalty = f.penalty }

  abbrev pub held_by : Held → Held
  held_by none = none
  held_by (one a) = one (full_by a)
  held_by (two a b) = two (full_by a) (full_by b)

  abbrev pub state_by : State → State
  state_by s = record { held = held_by s.held; visits = s.visits }

  pub dropped_by : (h : Held) (q : ℕ) → dropped (held_by h) q ≡ dropped h q
  dropped_by none q = refl
  dropped_by (one a) q = refl
  dropped_by (two a b) q = refl

  hold_by : (h : Held) (f : Full) → hold (held_by h) (full_by f) ≡ held_by (hold h f)
  hold_by none f = refl
  hold_by (one a) f = cond_two (λ (x y : Held). x ≡ held_by y) (ltb f.penalty a.penalty) _ _ _ _ (λ z. refl) (λ z. refl)
  hold_by (two a b) f = cond_two (λ (x y : Held). x ≡ held_by y) (ltb f.penalty a.penalty) _ _ _ _ (λ z. refl) (λ z. refl)

  pub finished_by : (u : List ℕ) (p : ℕ) (s : State) → finished (g u) p (state_by s) ≡ state_by (finished u p s)
  finished_by u p s = ap (λ (h : Held). record { held = h; visits = s.visits }) (hold_by s.held (record { path = u; penalty = p }))
