-- Addition theorems, enclosures and bounds of the power series.
pub mod Terms
pub mod Pairs
mod Cauchy
pub mod Addition
pub mod Fractions
pub mod Weighted
pub mod Exponential
pub mod Reciprocal
pub mod ExpFraction
pub mod Alternating
pub mod WaveFraction
mod Quarters
pub mod Quads
pub mod Classes
pub mod Falling
pub mod Waves
pub mod SmallAngle
pub mod Sharp
pub mod SineSign
pub mod Bounds
pub mod Pythagoras
pub mod Circle
pub mod CosineFalls
pub mod SineRises
pub mod Pins
