-- Cases of whole numbers, tables, and lists filled place by place.
pub mod Cases
pub mod Entries
pub mod Tabulate
