-- `alosfv`: the deviative loss factors.
pub mod Alosfv
