-- Facts about a choice by a test, and about two numbers that are compared.
use Rattle.std.specs.Prelude.{◌≡◌, refl, Bool, true, false, cond, ◌⊎◌, ℕ, ◌≤◌, ◌<◌}
use Rattle.std.proofs.Common.{inl, inr, arith}
use Rattle.std.proofs.Math.Decide.{dec_lt}

-- what holds for both branches holds for the choice
pub cond_by : {A : Type 0} (P : A → Type 0) (z : Bool) (x y : A) → (z ≡ true → P x) → (z ≡ false → P y) → P (cond z x y)
cond_by P true x y f g = f refl
cond_by P false x y f g = g refl

-- the same for two choices by one test
pub cond_two : {A B : Type 0} (R : A → B → Type 0) (z : Bool) (x y : A) (x' y' : B) → (z ≡ true → R x x') → (z ≡ false → R y y') → R (cond z x y) (cond z x' y')
cond_two R true x y x' y' f g = f refl
cond_two R false x y x' y' f g = g refl

pub lt_or_le : (a b : ℕ) → (a < b) ⊎ (b ≤ a)
lt_or_le a b = elim (dec_lt a b) [ yes h ↦ inl h | no h ↦ inr (omega arith) ]
