-- Steps between values of a format, the sum that is above the lowest height, the place that is not the first, and the literal.
mod Steps
pub mod Above
pub mod First
pub mod Literal
