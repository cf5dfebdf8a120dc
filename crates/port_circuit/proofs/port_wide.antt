-- Bounds of a circuit that was read.
mod Small
