-- The literals of `nommuf`.
pub mod Coefficients
