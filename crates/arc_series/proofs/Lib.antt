-- The two bounds of the arc tangent's own series.
pub mod OwnSeries
