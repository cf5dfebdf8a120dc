-- What `show` prints.
pub mod ShowText
-- A slot's marks as runs.
pub mod RunText
-- Refusals in words.
pub mod ReasonText
-- The MUFs as a table.
pub mod MufTable
-- A slot's rows as a table.
pub mod RowTable
-- The page of a sheet, and of a refusal.
pub mod Page
