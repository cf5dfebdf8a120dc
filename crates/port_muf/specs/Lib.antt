-- The exports of the MUF and of `f2dis`.
pub mod Exports
-- Words as floats, and `f2dis` on words.
pub mod Floats
pub mod F2disWords
-- An hour as words.
pub mod HourWords
-- The nominal MUF on words.
pub mod NominalExports
