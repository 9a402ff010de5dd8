-- The early answer (docs/RULES.md, §10): definitions
pub mod Outcome
pub mod Work
-- Laws
pub mod OutcomeLaws
pub mod TestedLaws
-- The demands, and that they are met
pub mod Demands
