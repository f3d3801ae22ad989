pub mod Disk
pub mod Faults
pub mod Inside
pub mod Sink
pub mod Source
