-- How long the line's data is.
pub mod Lengths
