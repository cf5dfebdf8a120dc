-- The sheet of a circuit file.
pub mod CircuitSheet
-- The numbers of a circuit's words.
pub mod Numbers
