-- The F2 and F1 lines, and what they say by number and value.
pub mod Lines
pub mod Says
-- The controlling slot.
pub mod Controlling
-- The tangent frequencies.
pub mod Tangents
-- A layer's line, the E line, and what it says by number and value.
pub mod LayerLine
pub mod LineSays
