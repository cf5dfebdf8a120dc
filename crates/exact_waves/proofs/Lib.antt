-- Sine and cosine are less than one unit from the exact value, and two fractions enclose each.
pub mod Waves
pub mod Literal
