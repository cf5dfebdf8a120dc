-- Ranges and cases of ln, and special values of exp and ln.
pub mod LnRange
pub mod LnCases
pub mod Special
