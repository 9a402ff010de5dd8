-- Laws of the marker and of guarded words, what holds of noise, and that the theorems and demand 1 hold, for every search and for ours
pub mod TheoremsMet
pub mod Instances
pub mod Demand1Met
pub mod MarkerLaws
pub mod LastBit
pub mod GuardLaws
pub mod NoiseLaws
