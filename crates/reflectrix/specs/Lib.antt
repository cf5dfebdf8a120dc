-- The ionogram of zeros, and `fobby`.
pub mod Rows
pub mod Fobby
-- A cell of the reflectrix by its test, and what is claimed of it.
pub mod Cell
pub mod Laws
-- The cells of an angle together.
pub mod Row
-- The scan of angles.
pub mod Angles
