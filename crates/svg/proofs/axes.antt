-- How long the axes are.
pub mod Lengths
