-- Parabolic layers.
pub mod Bendy
