-- exp and ln are less than one unit from the exact value, and exp is enclosed by two fractions.
mod Special
pub mod ExpTheorem
pub mod LnTheorem
pub mod Enclosed
