-- The words read along a chain, and the reader's answer.
pub mod Lists
pub mod Along
pub mod Answers
pub mod circuit_laws
