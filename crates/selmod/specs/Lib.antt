-- `selmod`.
pub mod Selmod
