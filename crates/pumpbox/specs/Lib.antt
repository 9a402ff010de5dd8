-- The version, and lengths for a caller who has to lend memory
pub mod Lengths
