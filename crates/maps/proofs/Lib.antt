-- Laws of maps of positions: those that rest on definitions which the must-fail edits turn
pub mod ProductLaws
pub mod UndoLaws
pub mod PositionOrdersMet
pub mod TestLaws
pub mod CountLaws
pub mod ReorderedBest
