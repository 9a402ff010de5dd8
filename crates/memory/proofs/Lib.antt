-- Laws of the rows for an index: one row, those of less than eight sums, all that are made, those that stand
pub mod RowLaws
pub mod RowsForLaws
pub mod LowLaws
pub mod MadeLaws
pub mod CodeLaws
pub mod ArrayLaws
