-- Demand 1 is met
pub mod DemandsMet
