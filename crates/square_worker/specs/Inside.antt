-- What private contracts and proofs cite.
pub mod Gone
