-- The circuit MUF: sporadic E, the domain, the hour put together, `curmuf`, and Es records, flat or lent.
-- The hour, `curmuf`, and what they say by number and value.
pub mod Hour
pub mod Curmuf
pub mod Says
-- A MUF's domain.
pub mod Domain
-- Sporadic E: a row's ray, the row that controls, its line; and what the search says by number and value.
pub mod Sporadic
pub mod SporadicSays
-- Es records rewritten.
pub mod Records
-- The circuit MUF over a lent list of Es records.
pub mod LentRecords
