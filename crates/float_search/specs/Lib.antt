-- The float board (docs/RULES.md, §16): that its search gives what the search gives, stated, then proved
pub mod Same
pub mod SameLaws
