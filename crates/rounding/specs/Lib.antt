-- IEEE 754's roundTiesToEven, and what is claimed of it.
pub mod TiesToEven
pub mod Laws
