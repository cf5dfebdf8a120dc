-- The cursor counts, one read, and the walk is the scan.
pub mod Cursor
mod OneRead
pub mod Walks
