-- Laws of the walk that rest on definitions which the must-fail edits turn: how deep it goes
pub mod DepthLaws
