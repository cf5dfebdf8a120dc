-- Refusals along the chain, of the MUF, and of the sheet.
pub mod Chain
pub mod Muf
pub mod Sheet
