-- The marking of a sheet for callers in any language.
pub mod Exports
-- A marking as words.
pub mod Words
