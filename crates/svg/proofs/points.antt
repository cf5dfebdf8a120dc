-- A point that is drawn is in the frame.
pub mod Frame
