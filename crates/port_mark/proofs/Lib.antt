-- The number of a line fits a word.
mod Small
