-- The calls on words: traces and their lines, an ionogram's rows as a trace.
pub mod Exports
