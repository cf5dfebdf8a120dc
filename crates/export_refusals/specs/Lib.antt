-- Which numbers each export can answer, and no other.
pub mod Exports
