-- The numbers of a column, and an answer is a trace.
pub mod Computed
