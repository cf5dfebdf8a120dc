-- Lengths of text.
pub mod Lengths
