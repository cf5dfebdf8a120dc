-- Laws of the unit in the last place and of enclosures.
pub mod Unit
pub mod Enclosure
