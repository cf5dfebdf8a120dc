-- Definition by definition, over any two functions that are ours where they are met.
pub mod AnyWaves
