-- Words of the proofs: rows that are made so far. No clause of a public call says any of them.
pub mod Columns
pub mod Bare
