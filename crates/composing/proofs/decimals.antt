-- Rounding a fraction by its 24 digits; the digits of a decimal.
mod Rounded
mod Scaled
mod Magnitude
mod DigitLists
