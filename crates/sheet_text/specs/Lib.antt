-- What `sheet` prints.
pub mod SheetText
-- The rows of a sheet.
pub mod SheetRows
-- The lines of a sheet.
pub mod SheetLines
