-- Each statement of the page is cited from the crate that proves it.
pub mod Theorems
