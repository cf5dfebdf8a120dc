-- How many points are taken.
pub mod Counts
-- A row stored.
pub mod Rows
