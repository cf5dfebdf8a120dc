-- Which refusals `chain` and `sheet` answer, and no other.
pub mod Refusals
