-- The units to the two sides of a result; terms and powers of e for exp; the area tangent for ln.
pub mod Units
pub mod Terms
mod PowerOfTwo
pub mod ExpPower
pub mod ExpNear
pub mod ExpEnds
pub mod Exponents
pub mod Atanh
mod Twice
mod LnRest
pub mod LnSum
