-- Words as floats.
mod Floats
