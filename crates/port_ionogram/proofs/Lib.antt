-- A refused sheet.
pub mod Sheets
