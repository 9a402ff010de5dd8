-- The calls on maps of positions (docs/RULES.md, §12): what each reports and leaves, the demands, and what the tests on lengths give
pub mod Outcome
pub mod Demands
pub mod Work
-- That it holds, and that no second outcome meets a promise
pub mod Demand1Met
pub mod DemandsMet
pub mod ProductMet
pub mod OnlyOutcome
-- Laws
pub mod OutcomeLaws
