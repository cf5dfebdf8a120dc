-- How many slots, and what is printed by the answer.
pub mod SlotCount
pub mod Printed
