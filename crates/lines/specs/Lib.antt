-- The text of the program's lines (docs/RULES.md, §8), and its laws
pub mod Line
pub mod LineLaws
