-- How long the beginning is.
pub mod Lengths
