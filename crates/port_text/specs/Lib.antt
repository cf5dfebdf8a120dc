-- What the export answers and leaves.
pub mod Exports
-- What a call that answers with a text leaves.
pub mod Left
