-- asin and atan as whole-number definitions, and their special values.
pub mod Atan
pub mod Asin
pub mod Special
