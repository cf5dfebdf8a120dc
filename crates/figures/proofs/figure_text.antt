-- How its tenths are put, how wide a figure is, and figures at the edges.
mod Placed
pub mod Widths
pub mod Examples
