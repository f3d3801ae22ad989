-- Words of the proofs: row operations, blocks of rows, what is kept, one row more. No clause of a public call says any of them.
pub mod RowOperations
pub mod Blocks
pub mod Rowwise
pub mod Held
pub mod Parts
pub mod Extend
