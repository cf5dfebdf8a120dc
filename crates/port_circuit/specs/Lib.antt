-- The exports of the circuit file: its words, and what each call answers and leaves.
pub mod Words
pub mod Exports
-- The circuit file that carries F2M3, for callers in any language
pub mod WideExports
