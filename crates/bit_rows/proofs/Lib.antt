-- Laws of the transform by folds and layers, and of sixteen bits at once
pub mod FoldLaws
pub mod LayerLaws
pub mod SixteenLaws
