-- The form with 128-byte records is fit, and has the laws of every form.
pub mod Fit128
pub mod Laws
