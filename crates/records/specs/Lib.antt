-- A record of a circuit file.
pub mod Record
-- The chain of records.
pub mod Chain
-- The form with F2M3.
pub mod Form128
