-- How near arc sine and arc tangent are to the exact values.
pub mod Ends
pub mod Atan
pub mod Asin
