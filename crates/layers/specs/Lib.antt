-- The state of a path: its numbers, and whose profile it has.
pub mod State
pub mod Owners
-- Slot numbers.
pub mod Slots
-- Rules of the layers.
pub mod Rules
-- `from_layers`, `ionset`, what `ionset` keeps, the owner that both leave, and the switch that both leave off.
pub mod FromLayers
pub mod Ionset
pub mod IonsetKept
pub mod OwnersLeft
pub mod ExactOff
