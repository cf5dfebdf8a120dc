-- The laws of the circuit file: off the chain, read back, written again, carried between layouts, and all at the paper's layout.
pub mod Off
pub mod Back
pub mod ReadWritten
mod Linked
mod Again
pub mod WrittenRead
pub mod WrittenForm
pub mod Carried
pub mod Paper
