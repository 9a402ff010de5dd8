-- The walk's memory: which rows are stored where, for which index, and laws of making them again
pub mod Memory
pub mod TopLaws
