-- How long a reason is.
pub mod Lengths
