-- The tables of the arcs.
pub mod Tables
