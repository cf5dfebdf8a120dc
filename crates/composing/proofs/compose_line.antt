-- The words of a line by their places.
mod WordPlaces
pub mod Then
pub mod Spelled
