-- The laws, and how long a marking's line is.
pub mod Laws
pub mod Length
