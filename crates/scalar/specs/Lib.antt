-- f32 notation, decimal literals, the scalar functions, the square root with its bit pattern, and what is claimed of them.
pub mod F32
pub mod Literals
pub mod Scalar
pub mod Root
pub mod RootPattern
pub mod Laws
