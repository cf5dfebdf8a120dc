-- The angles of the definitions: their sizes, their steps from the tables, their special values.
pub mod Cubic
pub mod Step
pub mod Angle
pub mod Reduce
pub mod AtanBits
pub mod Cosine
pub mod Arcs
pub mod AsinBits
pub mod AtanMost
pub mod Within
pub mod Special
mod Signed
