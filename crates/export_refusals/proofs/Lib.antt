-- The exports' numbers, group by group, then all of them.
mod Cases
mod Circuits
mod State
mod Heights
mod Muf
mod Ionogram
mod Sheets
mod Desk
pub mod Exports
