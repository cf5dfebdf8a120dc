-- `genion`, and that it answers of a slot just prepared.
pub mod Genion
pub mod Prepared
-- The thirty sounding frequencies of a slot.
pub mod Grid
-- The rows of an ionogram at given frequencies.
pub mod Rows
