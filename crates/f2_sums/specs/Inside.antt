-- Words of the proofs: what tables of sums hold. No clause of a public call says any of them.
pub mod Tables
