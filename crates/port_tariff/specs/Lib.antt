-- The price for callers in any language.
pub mod Exports
