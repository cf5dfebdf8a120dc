-- The laws of composed texts.
mod Held
pub mod Written
pub mod ReadBack
pub mod Printed
