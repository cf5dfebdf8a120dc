-- The exports of the heights.
pub mod Exports
-- Answers about heights as words.
pub mod Words
