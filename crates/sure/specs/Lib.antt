-- When the quick reading is surely right (docs/RULES.md, §4 and §10): definitions and statements
pub mod Sure
pub mod Test
-- Laws
pub mod MarginLaws
pub mod QuickSure
pub mod SharpLaws
-- Examples
pub mod Examples
