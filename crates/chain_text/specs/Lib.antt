-- What `chain` prints.
pub mod ChainText
-- Records that no chain reaches, in files of any length, and in what `chain` prints; the writer's order of refusals.
pub mod Laws
