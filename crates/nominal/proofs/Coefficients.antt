-- Each literal is the f32 nearest to its decimal.
pub use Rattle.nominal.proofs.nominal_factors.Coefficients.{coefficients-nearest}
