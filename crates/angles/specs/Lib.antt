-- The arguments of sine and cosine are in their domain: what is claimed.
pub mod Angles
