-- `lecden`: the rising test, the whole, what it keeps and prepares, and whose profile it leaves.
pub mod Rising
pub mod Lecden
pub mod LecdenKept
pub mod Prepared
pub mod LecdenOwns
-- The densities of the five shapes.
pub mod Density
-- A slot's shapes: F1 reshaped, the fifty heights, and all that is drawn.
pub mod F1
pub mod Grid
pub mod Draw
-- The marks of a slot's fifty heights: their numbers and names, which mark a height has, and what a mark says.
pub mod Mark
pub mod Marks
pub mod Meaning
