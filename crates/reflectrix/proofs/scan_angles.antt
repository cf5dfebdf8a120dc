-- Counts of angles, and that they are at most 40.
pub mod Counts
pub mod Forty
