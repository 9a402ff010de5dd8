-- That the theorems and demand 1 hold, laws of the tests and outcomes, and no second outcome
pub mod TheoremsMet
pub mod Demand1Met
pub mod FaultLaws
pub mod OutcomeLaws
pub mod OnlyOutcome
