-- What only contracts of the disk of tests speak of.
pub mod MemDisk
