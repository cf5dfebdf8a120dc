-- Owners read back, and whole states.
mod Owners
pub mod ReadBack
