-- What `plot` prints.
pub mod PlotText
-- What is drawn of a circuit file.
pub mod CircuitPlot
-- The picture of a circuit's slots.
pub mod Panels
