-- Rows of bits: the transform by folds, layers and eights; filling and picking; what the functions require
pub mod Fold
pub mod Layers
pub mod BlockLaws
pub mod Eight
pub mod EightLaws
pub mod FillLaws
pub mod Pick
pub mod PickLaws
pub mod EightKinds
pub mod EightKindsLaws
pub mod Takeable
pub mod FrozenOne
