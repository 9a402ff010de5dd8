-- Finding a record by its number meets demand 1.
use Rattle.std.specs.Prelude.{◌≡◌, ◌⊎◌}
use Rattle.code.specs.declared.Refusal.{Refusal}
use Rattle.code.specs.declared.Refusal.TheVariants.{Parameters, Torn}

-- ---- stepping refuses as 1 or 8
abbrev pub ParametersOrTorn : Refusal → Type 0
ParametersOrTorn why = (why ≡ Parameters) ⊎ (why ≡ Torn)
