-- Lists of bytes and words.
pub mod Lists
-- An array's `map`.
pub mod Maps
