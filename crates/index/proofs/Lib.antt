-- The laws of the index of a capture, and that its promises hold (docs/RULES.md, §14)
pub mod StepsLaws
pub mod FindingLaws
pub mod MakingLaws
pub mod FrontingLaws
pub mod AppendingLaws
pub mod OwnMet
pub mod AppendMet
pub mod BelongsMet
pub mod InUseMet
pub mod DemandsMet
pub mod MakingDemandsMet
pub mod FrontMet
pub mod OnlyIndex
