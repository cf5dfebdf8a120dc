-- What `sheet` prints of a slot's marks.
pub mod MarkText
