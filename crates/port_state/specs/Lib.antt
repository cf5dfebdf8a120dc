-- A state as words: floats, an owner, the state itself, points, and what a call on words answers and leaves.
pub mod Words
pub mod Owners
pub mod State
pub mod Ports
-- A state is read back from its words.
pub mod ReadBack
-- Layer lines as words.
pub mod Lines
