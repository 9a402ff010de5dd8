-- Encoding and taking back (docs/RULES.md, §1 and §6): what the calls report and leave, and demand 1
pub mod Outcome
pub mod Demands
-- Laws of the outcomes: each return; no second outcome; encoding and taking back again
pub mod OutcomeLaws
pub mod OnlyOutcome
pub mod RoundTripLaws
pub mod RoundTrip
-- A step of the work
pub mod Work
pub mod WorkLaws
