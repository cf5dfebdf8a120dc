-- The page of theorems; before it the statements that have no name elsewhere.
pub mod Unnamed
pub mod Theorems
