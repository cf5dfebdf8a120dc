-- Ranges that the sheet of a circuit stays in.
pub mod Ranges
