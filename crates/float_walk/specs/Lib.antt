-- The walk in floats: what it holds and counts, and its laws
pub mod Held
pub mod PenaltyLaws
pub mod HeldLaws
