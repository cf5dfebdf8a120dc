-- Whole-number helpers: high product, rounded packing, shifts.
pub mod Fixed
