-- How near sine and cosine are to the exact values, and the two fractions that enclose each.
pub mod Near
pub mod Literal
