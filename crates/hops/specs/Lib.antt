-- Hop geometry, and the rounds that correct a MUF for bending.
pub mod Geometry
pub mod Rounds
