-- The outcome at each place where `early_within` returns.
use Rattle.std.specs.Prelude.{ℕ, Result, Ok, Err}
use Rattle.code.specs.declared.Refusal.{Refusal}
use Rattle.search.specs.declared.Found.{Found}

-- what is kept of a search's answer
abbrev pub penalty_only : Result Found Refusal → Result ℕ Refusal
penalty_only (Ok best) = Ok best.penalty
penalty_only (Err why) = Err why
