-- The kernel, the turns and folds of an angle, and the rounding of sine and cosine.
pub mod Kernel
pub mod Turns
pub mod Folds
pub mod Rounding
