-- Runs of bytes, and words by what is between blanks.
pub mod Runs
pub mod Parts
