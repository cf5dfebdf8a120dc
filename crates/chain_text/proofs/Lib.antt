-- The text of a chain fits.
mod Within
pub mod chain_laws
