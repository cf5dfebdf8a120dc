-- What a number is by its bits; digits, widths, and the text of each kind.
mod Digits
pub mod Widths
mod Signs
