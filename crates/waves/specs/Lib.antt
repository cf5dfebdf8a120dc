-- sin and cos as whole-number definitions, and their special values.
pub mod SinCos
pub mod Special
-- Sine and cosine with a refusal.
pub mod Answers
