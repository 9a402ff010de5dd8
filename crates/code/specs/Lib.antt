-- The tests on a call's input (docs/RULES.md, §6 and §9): limits, sound parameters, the table of refusals, bad entries, demand 1
pub mod Sound
pub mod Entries
pub mod Admitted
pub mod SoundInput
pub mod Demand1
-- Their laws
pub mod SoundLaws
pub mod EntriesLaws
pub mod AdmittedLaws
pub mod RefusalLaws
pub mod Demand1Laws
