-- Text on a page.
pub mod Text
-- Words, and fields of a given width.
pub mod Ascii
pub mod Aligned
