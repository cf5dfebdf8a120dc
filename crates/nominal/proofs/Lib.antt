-- The nominal MUF: its literals, its counts, the argument of its sine and cosine, and what it reads.
pub mod Coefficients
mod Counts
pub mod Angles
pub mod Inputs
