-- How long a picture is.
pub mod Lengths
