-- ln in whole numbers: its table, then the function; special values of exp and ln.
pub mod Tables
pub mod Ln
pub mod Special
