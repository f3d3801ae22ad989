-- Words of the proofs: tables of places. No clause of a public call says any of them.
pub mod Tables
