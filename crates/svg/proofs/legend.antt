-- How long the legend is.
pub mod Lengths
