-- Encoding, inverse and quick reading on a shortened set (docs/RULES.md, §15): what the calls report and leave, and the demands
pub mod Outcome
pub mod Demands
-- Laws: each return; encoding and taking back again; an empty choice gives what the plain calls give
pub mod WorkLaws
pub mod OutcomeLaws
pub mod RoundTrip
pub mod EmptyChoice
