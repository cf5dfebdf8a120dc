-- The controlling slot is below 3.
pub mod Small
