-- How near exp and ln are to the exact values, and the two fractions that enclose exp.
pub mod Exp
pub mod Ln
pub mod Enclosure
