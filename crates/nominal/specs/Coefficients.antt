-- The literals of `nommuf`, which stand with its factors.
pub use Rattle.nominal.specs.FactorLiterals.{CoefficientsNearest}
