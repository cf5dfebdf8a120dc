-- The turns of a search through Es rows, and what they say by number and value.
pub mod Searches
mod Says
