-- Ranges and cases of exp.
pub mod ExpRange
pub mod ExpCases
