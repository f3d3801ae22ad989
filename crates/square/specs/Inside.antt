-- What the proofs speak of behind the definitions: the kernel of a square as it is kept, and the keeper of tests.
pub mod Kernel
pub mod MemKeep
