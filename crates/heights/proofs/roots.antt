-- A guess that passes its test is the root.
pub mod Digits
