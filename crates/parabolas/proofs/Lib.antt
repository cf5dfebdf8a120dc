-- The place of a layer in the tables; number and value of an answer.
pub mod Places
mod Says
