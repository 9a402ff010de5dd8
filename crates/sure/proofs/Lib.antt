-- Laws of surely right answers: those that rest on definitions which the must-fail edits turn
pub mod MarginLaws
pub mod LargestLaws
pub mod SureLaws
pub mod Examples
pub mod SharpLaws
pub mod TurnedLaws
pub mod TestLaws
pub mod QuickSure
