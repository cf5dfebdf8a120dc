-- Records put one after the other.
pub mod Cells
