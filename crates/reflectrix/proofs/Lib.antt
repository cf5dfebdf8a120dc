-- Cells of the reflectrix, and its forty constants.
mod Cells
mod Rcosd
