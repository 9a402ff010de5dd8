-- A run of the program (docs/RULES.md, §8): what it hands over, and that it ends
pub mod Runs
pub mod RunsLaws
pub mod EndLaws
pub mod UnfailedLaws
-- The same of a reader and a writer whose bytes are known
pub mod Streams
pub mod StreamsLaws
