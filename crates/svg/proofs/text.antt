-- How long the pieces are.
pub mod Lengths
