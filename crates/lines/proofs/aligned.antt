-- Every field has its width.
pub mod Widths
