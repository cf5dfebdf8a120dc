-- The circuit MUF over any sine and any cosine.
pub mod Over
pub mod AnyWaves
