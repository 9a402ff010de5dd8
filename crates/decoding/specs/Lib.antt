-- Decoding (docs/RULES.md, §2 to §5), by subject: a file of definitions has the subject's name, and its laws follow
-- Readings and the two combining steps: sizes, signs, rows, correlation, how large a running sum can be
pub mod Readings
pub mod StepLaws
pub mod PenaltyLaws
pub mod CorrelationLaws
pub mod BoundLaws
-- The best word and the gap
pub mod Best
pub mod BestLaws
-- The quick reading
pub mod Quick
pub mod QuickLaws
pub mod SignLaws
-- The walk: values and paths, what is held, the whole tree
pub mod Walk
pub mod PathLaws
pub mod HeldLaws
pub mod OfferLaws
pub mod WalkLaws
pub mod TreeLaws
-- Blocks of indices, and runs of frozen ones
pub mod Blocks
pub mod BlockLaws
-- The walk under an allowance, and the search's answer
pub mod Allowance
pub mod Answer
pub mod AllowanceLaws
pub mod AnswerLaws
pub mod SearchLaws
pub mod ZeroLaws
-- Blocks of information indices along the hard word
pub mod InformationLaws
-- Readings turned over: negated by a word, and by the all-ones word
pub mod TurnLaws
pub mod TurnedWalk
pub mod TurnedBest
pub mod AllOnes
pub mod PolarityLaws
-- What the gap is good for, and readings without noise
pub mod GapLaws
pub mod CleanLaws
-- The demands, that they are met, and examples
pub mod Demands
pub mod Examples
