-- Circuit files turned from the paper's form into the one that carries F2M3, and back
-- what the two programs write of a list of bytes
pub mod Turn
-- what holds of it
pub mod Laws
