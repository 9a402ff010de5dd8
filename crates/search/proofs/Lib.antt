-- Laws of the search that rest on definitions which the must-fail edits turn: the runner-up shown, and demand 1
pub mod RunnerUpLaws
pub mod RunnerUpMet
pub mod Demand1Met
