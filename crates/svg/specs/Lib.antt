-- Where a number stands in the frame.
pub mod Points
-- The line through the rows.
pub mod Trace
-- Marks and the MUF's line.
pub mod Pieces
-- The frame with its axes.
pub mod Axes
-- The legend.
pub mod Legend
-- What every picture begins with.
pub mod Frame
