-- No second outcome; demand 1 is met
pub mod OnlyOutcome
pub mod DemandsMet
