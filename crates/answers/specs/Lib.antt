-- What C gets of each answer: the number returned, the numbers written, and the lent buffers
pub mod Reported
-- The parts of the answers, and laws
pub mod Answers
pub mod ReportedLaws
pub mod EarlyLaws
pub mod Indexed
pub mod IndexedLaws
pub mod Reordered
pub mod Unpacked
pub mod Written
pub mod WrittenLaws
pub mod Guarded
pub mod GuardedLaws
