-- What a comparison of two traces answers and leaves.
pub mod Compared
-- Two traces: when a list of rows is a trace (Trace), and which lines they have (Lines).
pub mod Trace
pub mod Lines
-- What the lines of two traces are, by their properties alone.
pub mod Held
-- A computed ionogram as a trace.
pub mod Computed
