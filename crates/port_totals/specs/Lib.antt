-- The day's total for callers in any language.
pub mod Exports
