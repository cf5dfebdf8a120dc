-- The flat table of reads, and reads that rise.
mod Tables
pub mod Rise
