-- The unit in the last place, nearness with a unit to each side, and enclosures by fractions.
pub mod Unit
pub mod Between
pub mod Enclosure
