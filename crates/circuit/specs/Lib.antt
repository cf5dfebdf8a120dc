-- The circuit file: the circuit that is read, the words of a point.
pub mod Read
pub mod Point
-- The bytes of one record.
pub mod Bytes
-- The bytes that the writer leaves.
pub mod Written
-- What the laws of the circuit file say: the records a chain reaches, the forms of a file, the laws, and the paper's layout.
pub mod OnChain
pub mod Forms
pub mod Laws
pub mod Paper
-- The circuit file that carries F2M3
-- the form, and what is read of a file
pub mod Wide
-- the laws of reader and writer
pub mod WideLaws
