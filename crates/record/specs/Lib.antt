-- Records (docs/RULES.md, §7): what the reader, the writer and the search of a record report and leave, and demand 1
pub mod Reader
pub mod Writing
pub mod Searching
pub mod Demands
-- Laws of the reader; no second outcome; reading what was written; demand 1 is met by the writer (by the reader: proofs/DemandsMet.antt)
pub mod ReaderLaws
pub mod Accepted
pub mod RunningSums
pub mod HeaderLaws
pub mod OnlyHeader
pub mod WritingLaws
pub mod WrittenRead
pub mod NoRailWritten
pub mod WritingDemandMet
-- Examples
pub mod Examples
