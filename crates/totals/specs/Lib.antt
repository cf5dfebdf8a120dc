-- The day's total: its definition, and what is promised of it beside the contracts.
pub mod Total
pub mod Orders
