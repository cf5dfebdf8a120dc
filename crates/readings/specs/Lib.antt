-- A density read off a profile: by a scan, and from a cursor on; and what the number of its segment says.
pub mod Scan
pub mod Cursor
pub mod Segments
-- Interpolation.
pub mod Xlin
