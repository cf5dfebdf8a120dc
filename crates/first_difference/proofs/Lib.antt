-- Lines compared are bytes compared; the laws.
mod Bytes
pub mod Same
mod First
mod Common
mod Cases
pub mod Laws
