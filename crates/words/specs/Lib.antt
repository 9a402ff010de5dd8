-- The code (docs/RULES.md, §1): words, information bits, index kinds, inverse, degree, distance
pub mod Bits
pub mod Word
pub mod Kinds
pub mod Inverse
pub mod Polynomial
pub mod Distance
-- Laws: encoding and taking back, for any row of kinds
pub mod TransformLaws
pub mod BitLaws
pub mod FillLaws
-- Laws: the published forms agree, and the least distance of RM(r,m)
pub mod TableLaws
pub mod PublishedLaws
pub mod ParityLaws
pub mod HalfLaws
pub mod BasisLaws
pub mod DistanceLaws
pub mod DualLaws
