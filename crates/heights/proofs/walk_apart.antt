-- A profile that tells them apart.
pub mod Apart
