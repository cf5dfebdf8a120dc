-- The lines of an hour.
mod Lines
