-- Whole blocks of indices. Frozen ones: how many of a block are taken at once, and what their zeros add
pub mod Frozen
pub mod FrozenLaws
-- Blocks of information indices: what they are made of, and the path's bits there
pub mod Information
pub mod InformationLaws
