-- Lent cells filled from the front.
pub mod Cells
