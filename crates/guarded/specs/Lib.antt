-- Guarded words (docs/RULES.md, §17): definitions
pub mod Guard
pub mod Faults
pub mod Written
pub mod Outcome
-- What is stated over them, for every search
pub mod Theorems
pub mod Demand1
pub mod OnlyWritten
-- Laws
pub mod FaultLaws
pub mod DigitLaws
