-- What is printed of a number: the nearest whole number, and a MUF's figure in tenths.
pub mod Nearest
pub mod Figure
-- A number in decimals, in a field of a given width.
pub mod Number
-- The five characters of a printed figure.
pub mod FigureText
