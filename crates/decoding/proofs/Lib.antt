-- Laws of readings, penalties, the walk and the answer: those that rest on definitions which the must-fail edits turn
pub mod OfferLaws
pub mod WalkLaws
pub mod GapLaws
pub mod CleanLaws
pub mod SearchLaws
pub mod DemandsMet
pub mod Examples
pub mod GapReachedLaws
pub mod InformationLaws
pub mod RunLaws
pub mod ZeroLaws
pub mod NeverZeroExamples
