-- Files turned from one form into the other: outcomes, the circuit kept, there and back, refusals.
pub mod Files
mod Outcomes
mod Kept
pub mod Turned
pub mod Refusals
pub mod Laws
