-- The slot sheet, and whose profile it makes.
pub mod Sheet
pub mod Owned
