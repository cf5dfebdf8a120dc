-- The theorem on lists of circuit MUFs, slot sheets and nominal MUFs: the calls, then what is said of a list, the lists in the paper's words, the same by bits, and a nominal MUF put anywhere.
pub mod Calls
pub mod Lists
pub mod PaperWords
pub mod SameLists
pub mod Nominal
