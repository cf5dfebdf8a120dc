-- The paper's marked trials, as rows of one table.
pub mod Starred
