-- The first line of a text that is not another's.
-- a text as lines
pub mod Lines
-- ours and theirs line by line: what `verdict` answers
pub mod Difference
-- the same by bytes: line feeds in the longest common beginning
pub mod Closed
-- what holds of it
pub mod Laws
