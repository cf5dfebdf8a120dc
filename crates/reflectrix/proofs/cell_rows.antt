-- The bounds of a row's test, the cells that are written, and a list of thirty-two numbers as a `map`.
mod Bounds
mod Writes
pub mod Maps
