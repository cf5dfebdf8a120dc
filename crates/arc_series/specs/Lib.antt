-- The arc tangent's own series.
pub mod OwnSeries
