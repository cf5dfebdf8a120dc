-- Any way of finding heights that agrees with `gethp` gives the same ionogram; `genion` answers of a slot just prepared.
pub mod Ways
pub mod Prepared
