-- What is worked out lane by lane, and a branch that is never reached.
pub mod Lanes
pub mod NeverBoth
