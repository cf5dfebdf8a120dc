-- The Rust's constants.
pub mod Constants
