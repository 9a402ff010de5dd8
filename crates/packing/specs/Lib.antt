-- Packed records (docs/RULES.md, §7): the layout, what unpacking reports and leaves, and demand 1
pub mod Layout
pub mod Unpacking
pub mod UnpackDemand
-- Laws of both; two readings in three bytes as code stores them
pub mod LayoutLaws
pub mod PairLaws
pub mod UnpackingLaws
-- That demand 1 is met
pub mod UnpackDemandMet
