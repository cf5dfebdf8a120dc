-- How long the runs are.
pub mod Lengths
