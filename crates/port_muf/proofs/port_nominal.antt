-- Rows of words.
mod WordRows
