-- Figures that jump, texts that differ, and one second more.
pub mod Jump
pub mod Text
pub mod Second
