-- The rounding theorem: cells of a format, its limit, units, the last digit, and each operation.
pub mod Cells
pub mod Limit
pub mod Units
pub mod LastDigit
pub mod TiesToEven
pub mod Only
pub mod Operations
