-- The nominal MUF: its literals, `nommuf` itself, that 13 is no answer of it, and what it reads of its points and rows.
pub mod Coefficients
pub mod Nommuf
pub mod Angles
pub mod Inputs
-- The numbers of `nommuf`: its literals, and its parts that need no list.
pub mod FactorLiterals
pub mod Factors
