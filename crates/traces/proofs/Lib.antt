-- Two traces: the cells written, what the loop keeps, the answers.
pub mod Cells
mod Merged
pub mod Answers
pub mod trace_laws
