-- Words of invariants.
pub mod Kept
