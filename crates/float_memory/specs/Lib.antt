-- The walk's memory in floats: what is read from its arrays
pub mod FloatMemoryLaws
