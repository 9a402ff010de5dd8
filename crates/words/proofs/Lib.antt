-- Laws of words, information bits and codes: those that rest on definitions which the must-fail edits turn
pub mod KindLaws
pub mod FillLaws
pub mod InverseLaws
pub mod HalfLaws
pub mod DistanceLaws
pub mod ParityLaws
pub mod DualLaws
pub mod PlotkinLaws
pub mod PolynomialLaws
pub mod AllOnesLaws
