-- How many numbers there are.
pub mod Sizes
