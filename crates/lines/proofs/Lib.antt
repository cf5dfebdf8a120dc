-- Text put on a page: places, decimals, sizes.
pub mod Placing
pub mod Decimals
pub mod Sizes
