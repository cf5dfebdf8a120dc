-- The theorem on lists of calls: states alike for a slot, states prepared, numbers that stay f32, one call framed, then the lists, also by the paper's words and by bits; a nominal MUF put into a list.
mod Alike
mod Prepared
mod Numbers
mod Frames
pub mod Lists
pub mod OnlyState
pub mod PaperWords
pub mod SameLists
pub mod Nominal
