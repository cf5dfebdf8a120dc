-- That the test of a cell suffices, by the patterns too, and that the square of the cosine is in its range.
mod Near
mod Chain
mod Steps
mod Zero
pub mod Test
mod Patterns
mod Lead
pub mod Right
pub mod Cosine
mod Numbers
