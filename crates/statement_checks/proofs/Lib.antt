-- Each by computing, by cases, or from the theorem whose statement it speaks of.
mod Listed
mod Named
mod Figures
mod Files
mod Words
mod Bits
mod Points
pub mod Checks
