-- Records met, steps of a chain, and the chain followed.
pub mod Members
pub mod Steps
pub mod Followed
