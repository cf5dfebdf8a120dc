-- Sizes and patterns of the definitions, their special values, and what lies outside their domain.
pub mod Magnitude
pub mod Patterns
pub mod Outside
pub mod Special
