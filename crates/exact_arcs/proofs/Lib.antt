-- Arc tangent and arc sine are less than one unit from the exact value; to the side of 0 the unit is that just below the result.
mod Below
pub mod Atan
pub mod Asin
