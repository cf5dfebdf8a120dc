-- Sums of a list, and that the order does not matter.
pub mod Sums
pub mod Orders
