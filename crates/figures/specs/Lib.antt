-- The bench figures and the numbers of the rules, one statement per file
pub mod BenchFigures
pub mod LargestReadings
pub mod RunnerUpFigures
pub mod RuleNumbers
-- How deep the walk goes
pub mod Depth
