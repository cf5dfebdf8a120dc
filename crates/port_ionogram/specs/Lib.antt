-- The exports of the ionogram and the slot sheet: layouts in words, and what each call answers and leaves.
pub mod Exports
-- The angle count on words.
pub mod Sang
-- Rows and marks as words.
pub mod Layouts
