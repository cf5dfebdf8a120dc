-- The first segment that holds the probe.
pub mod Segments
