-- Laws of the Hadamard transform and its answer: those that rest on definitions which the must-fail edits turn
pub mod HadamardLaws
pub mod FirstOrderLaws
pub mod EncodedLaws
pub mod LargestLaws
pub mod AllWords
pub mod AnswerLaws
pub mod TheoremsMet
