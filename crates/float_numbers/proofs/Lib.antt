-- Laws of floats that are whole numbers: those that rest on what the must-fail edits turn
pub mod WholeLaws
pub mod SumLaws
pub mod NearLaws
pub mod WholesLaws
