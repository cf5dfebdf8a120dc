-- Signs as words, and words copied.
pub mod Signs
mod Copies
pub mod state_laws
