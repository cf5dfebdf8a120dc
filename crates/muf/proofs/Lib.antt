-- The Es row that a MUF rewrites is there; what is said by number and value.
pub mod Rows
mod Says
