-- The ends of an angle found for asin and atan, held against sine and cosine.
pub mod Ends
pub mod Fine
pub mod SineRoom
mod SmallCircle
mod Nodes
pub mod AsinEnds
pub mod AsinCases
