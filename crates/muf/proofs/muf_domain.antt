-- The lists that a MUF reads are there.
pub mod Lists
