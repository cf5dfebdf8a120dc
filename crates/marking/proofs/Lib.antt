-- Parts of lists, our text, and the laws.
mod Parts
mod OurText
mod Decided
pub mod Laws
