-- The number of each refusal.
pub mod Number
