-- Answers in words that are lent.
pub mod Words
