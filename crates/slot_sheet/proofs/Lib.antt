-- Whose profile a slot sheet makes.
pub mod Owned
