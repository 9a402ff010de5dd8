-- The program's state between two rounds, and its laws
pub mod Situation
pub mod SituationLaws
