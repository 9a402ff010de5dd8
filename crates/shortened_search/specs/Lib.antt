-- The search on a shortened set (docs/RULES.md, §15): what it reports and leaves, and the demands
pub mod Outcome
pub mod Demands
-- Laws: each return; an empty choice gives what the plain search gives; the demands are met
pub mod OutcomeLaws
pub mod EmptyChoice
pub mod DemandsMet
pub mod TurnedOverMet
