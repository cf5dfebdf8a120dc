-- The nearest whole number is what is asked for, and exact products of a pattern.
pub mod HalfToEven
pub mod Product
