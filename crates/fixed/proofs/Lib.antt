-- Products, rounding, values and sizes of packed numbers.
pub mod Product
pub mod Round
pub mod Values
pub mod Sizes
