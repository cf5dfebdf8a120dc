-- The tests of the definition mean what the request says.
pub mod Meaning
