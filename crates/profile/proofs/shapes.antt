-- What the marks say.
mod NotBelow
pub mod Rule
