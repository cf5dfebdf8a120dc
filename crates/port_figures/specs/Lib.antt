-- The printed figure for callers in any language.
pub mod Exports
