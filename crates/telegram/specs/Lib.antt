-- The tilt telegram (docs/RULES.md, §11): definitions
pub mod Telegram
pub mod Faults
pub mod Outcome
-- What is stated over them
pub mod Theorems
pub mod Demand1
pub mod Examples
-- Laws
pub mod TelegramLaws
