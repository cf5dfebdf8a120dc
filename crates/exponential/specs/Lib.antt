-- exp in whole numbers: its table, then the function.
pub mod Tables
pub mod Exp
