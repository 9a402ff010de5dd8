-- Signed numbers by their two parts, sums and rows over indices, least and next of a list, the lowest one of a number
pub mod Parts
pub mod Sums
pub mod Least
pub mod Lowest
pub mod Laid
-- Their laws
pub mod PartsLaws
pub mod SumsLaws
pub mod LeastLaws
pub mod LowestLaws
-- Laws of choices and of lists, for all crates
pub mod Choice
pub mod EntryLaws
pub mod Halves
pub mod Front
pub mod Lent
