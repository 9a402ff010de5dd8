-- Rows of running sums in a scratch array; the order of two numbers
pub mod Order
pub mod OrderLaws
pub mod Rows
pub mod RowLaws
pub mod PlaceLaws
pub mod SumLaws
