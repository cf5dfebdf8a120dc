-- The own series of the logarithm.
pub mod OwnSeries
