-- `f2dis`: how the F2 MUF spreads about its median; where a NaN sunspot number stands.
pub mod F2dis
pub mod NanRow
