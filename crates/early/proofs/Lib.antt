-- Laws of the early answer: those that rest on its outcome, which a must-fail edit turns
pub mod OutcomeLaws
pub mod OnlyOutcome
pub mod WayLaws
pub mod Demand1Met
pub mod DemandsMet
