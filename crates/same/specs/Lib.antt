-- When two numbers are the same.
pub mod Same
