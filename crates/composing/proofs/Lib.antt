-- What is said, and that it has room.
mod Answered
pub mod compose_laws
