-- The arguments of sine and cosine in the MUF and in the reflectrix are in their domain.
pub mod Keys
pub mod Angles
pub mod Reflectrix
