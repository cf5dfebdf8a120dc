-- The lines hold the traces against one another, no others do, and there are at most 1,024.
pub mod Held
pub mod OnlyLines
pub mod Few
