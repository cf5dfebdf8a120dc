-- The same numbers are the equal ones.
pub mod Same
