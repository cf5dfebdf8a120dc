-- What definitions that stand in statements and in no contract say, in other words: each would fail if the definition said less.
pub mod Listed
pub mod Named
pub mod Figures
pub mod Files
pub mod Words
pub mod Bits
pub mod Points
pub mod Checks
