-- Ranges of the angle count and of the controlling slot.
pub mod Ranges
