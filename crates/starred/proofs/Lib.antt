-- The marked trials hold.
pub mod Starred
