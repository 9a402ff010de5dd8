-- First-order words (docs/RULES.md, §13): what the call reports and leaves
pub mod Outcome
-- What the inner functions require and give
pub mod Work
-- Laws of the work: a step of the transform, the largest of a row, the word and its bits, the outcome
pub mod CrossLaws
pub mod TopLaws
pub mod WordLaws
pub mod OutcomeLaws
-- The demands on the call, and that they are met
pub mod Demands
pub mod DemandsMet
