-- The lines of a text by their places.
mod LinePlaces
mod Parts
