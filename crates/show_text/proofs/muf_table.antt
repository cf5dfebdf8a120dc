-- How long the table is.
pub mod Lengths
