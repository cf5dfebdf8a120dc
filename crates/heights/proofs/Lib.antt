-- The sum over the flat table, what a state owns, walks as scans, the whole sum, the segments, and ways of finding heights.
mod Tables
pub mod Owned
pub mod Walks
pub mod Whole
pub mod Segments
pub mod Finders
pub mod SameReads
pub mod walk
pub mod walk_apart
