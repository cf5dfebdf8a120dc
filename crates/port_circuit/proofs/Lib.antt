-- Words copied, a circuit laid out in words, and how long a file is.
mod Copies
mod Laid
pub mod Short
