-- Words of the proofs: what coordinates give, tables of pivots, columns. No clause of a public call says any of them.
pub mod Columns
pub mod Dots
pub mod Coordinates
pub mod Form
pub mod Tables
