-- A row that names information indices (docs/RULES.md, §15): the kinds that it leaves, and the tests 1 and 12
pub mod Named
-- Their laws
pub mod NamedLaws
pub mod AllOnesNamed
