-- What the program writes (docs/RULES.md, §8), one record at a time; the rules' example
pub mod Program
pub mod OutputLaws
pub mod Example
pub mod Step
pub mod StepLaws
