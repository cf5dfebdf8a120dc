-- Words as floats.
pub mod Read
